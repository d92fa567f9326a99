-- What the invariant says of every world in plain words.
use Rattle.std.proofs.Common.{◌≡◌, ◌≢◌, ℕ, ◌+◌, ◌*◌, ◌%◌, ◌≤◌, Bool, true, false, ltb, List, [], ◌∷◌, length, unwrap_or, inl, inr, refl, arith, ap, sym, subst, ◌∙◌, lit≤, not, ◌&&◌, length-set}
use Rattle.std.specs.Prelude.{is_some, ◌||◌, slice_index}
use Rattle.std.proofs.lemmas.List.Edits.{length-remove}
use Rattle.std.proofs.lemmas.Bool.Decides.{nat_tests}
use Rattle.octal.specs.Octal.{is_digit}
use Rattle.odt_machine.specs.declared.mode.Mode.{Mode}
use Rattle.odt_machine.specs.declared.mode.Mode.TheVariants.{Prompt, Number, Opened, Typing, Running}
use Rattle.odt_machine.specs.Machine.{Machine}
use Rattle.odt_machine.specs.Described.{IsDescribed}
use Rattle.host_core.specs.declared.phase.Phase.{Phase}
use Rattle.host_core.specs.declared.phase.Phase.TheVariants.{Ended}
use Rattle.host_core.specs.Core.{Core}
use Rattle.line_world.specs.declared.event.Event.{Event}
use Rattle.line_world.specs.declared.event.Event.TheVariants.{Take, Hear, LoseDown, LoseUp, ChangeDown, ChangeUp, Quiet, Restart}
use Rattle.line_world.specs.Scene.{Scene, Toll, toll_of}
use Rattle.line_world.specs.Wire.{is_harmless, may_change}
use Rattle.host_core.specs.Console.{resynchronise_of}
use Rattle.line_world.specs.World.{takes, host_hears, times_out, happens, after, is_timeout, had_timeout}
use Rattle.line_world.specs.Site.{site, Ground, ground}
use Rattle.line_world.specs.Pending.{IsStopped}
use Rattle.line_world.specs.Lawful.{TakesDigit, TakesSlash, TakesReturn, LawfulBefore, LawfulKey, LawfulOr}
use Rattle.line_world.specs.Invariant.{IsKept, InPhase, OneWay, spare, most_lost}
use Rattle.line_world.specs.Promises.{HasAddress, IsExpected, KeysAreDescribed, QueuesAreShort, HasCause, IsTame}
use Rattle.line_world.proofs.Frame.{scene}
use Rattle.line_world.proofs.Parts.{differ}
use Rattle.line_world.proofs.Keys.{lawful}
use Rattle.line_world.proofs.Sites.{start_even}
use Rattle.line_world.proofs.Taking.{key_takes}
use Rattle.line_world.proofs.Events.{kept_event, lost_if, under}

-- ---- described keys

digit_described : (mode : Mode) (c : ℕ) → is_digit c ≡ true → TakesDigit mode → IsDescribed mode c
digit_described Prompt c digit takes = inl digit
digit_described (Number v n) c digit takes = inl (digit, takes)
digit_described (Opened a) c digit takes = inl digit
digit_described (Typing a v n) c digit takes = inl (digit, takes)
digit_described (Running p) c digit takes = absurd takes

slash_described : (g : Ground) (mode : Mode) (c : ℕ) → c ≡ 47 → TakesSlash g mode → IsDescribed mode c
slash_described g Prompt c is takes = absurd takes
slash_described g (Number v n) c is takes = inr (inl (is, takes.2))
slash_described g (Opened a) c is takes = absurd takes
slash_described g (Typing a v n) c is takes = absurd takes
slash_described g (Running p) c is takes = absurd takes

slash_address : (g : Ground) (mode : Mode) → TakesSlash g mode → HasAddress g.plan mode
slash_address g Prompt takes = absurd takes
slash_address g (Number v n) takes = (takes.0, takes.1, takes.3)
slash_address g (Opened a) takes = absurd takes
slash_address g (Typing a v n) takes = absurd takes
slash_address g (Running p) takes = absurd takes

return_described : (g : Ground) (mode : Mode) (c : ℕ) → c ≡ 13 → TakesReturn g mode → IsDescribed mode c
return_described g Prompt c is takes = absurd takes
return_described g (Number v n) c is takes = absurd takes
return_described g (Opened a) c is takes = inr (inl is)
return_described g (Typing a v n) c is takes = inr (inl (is, takes.3))
return_described g (Running p) c is takes = absurd takes

plain_described : (mode : Mode) (c : ℕ) → c ≡ 90 → IsStopped mode → IsDescribed mode c
plain_described Prompt c is stopped = inr is
plain_described (Number v n) c is stopped = inr (inr (inr is))
plain_described (Opened a) c is stopped = inr (inr is)
plain_described (Typing a v n) c is stopped = inr (inr is)
plain_described (Running p) c is stopped = absurd stopped

not_slash : (c d : ℕ) → c ≡ d → d ≢ 47 → c ≡ 47 → ⊥
not_slash c d is other same = other (sym is ∙ same)

digit_no_slash : (c : ℕ) → is_digit c ≡ true → c ≡ 47 → ⊥
digit_no_slash c digit same = grind (arith, nat_tests)

-- so is each key of a plain host; with a careful one the line may have changed it, and that host resynchronises by a key of its own
expected : (careful : Bool) (mode : Mode) (c : ℕ) → IsDescribed mode c → IsExpected careful mode c
expected true mode c h = inl h
expected false mode c h = h

resync_expected : (careful : Bool) (mode : Mode) (c : ℕ) → c ≡ resynchronise_of careful → IsStopped mode → IsExpected careful mode c
resync_expected true mode c is stopped = inr (ap is_harmless is)
resync_expected false mode c is stopped = plain_described mode c is stopped

no_slash : (careful : Bool) → resynchronise_of careful ≢ 47
no_slash true e = omega arith
no_slash false e = omega arith

before_described : (g : Ground) (c : ℕ) → LawfulBefore g c → IsExpected g.careful g.machine.mode c × (c ≡ 47 → HasAddress g.plan g.machine.mode)
before_described g c (inl (digit, takes)) = (expected g.careful g.machine.mode c (digit_described g.machine.mode c digit takes), λ e. absurd (digit_no_slash c digit e))
before_described g c (inr (inl (is, takes))) = (expected g.careful g.machine.mode c (slash_described g g.machine.mode c is takes), λ e. slash_address g g.machine.mode takes)
before_described g c (inr (inr (inl (is, takes)))) = (expected g.careful g.machine.mode c (return_described g g.machine.mode c is takes), λ e. absurd (not_slash c 13 is (differ 13 47 refl) e))
before_described g c (inr (inr (inr (is, stopped)))) = (resync_expected g.careful g.machine.mode c is stopped, λ e. absurd (not_slash c (resynchronise_of g.careful) is (no_slash g.careful) e))

key_described : (going : Bool) (g : Ground) (c : ℕ) → unwrap_or g.plan.start 0 % 2 ≡ 0 → LawfulKey going g c → IsExpected g.careful g.machine.mode c × (c ≡ 47 → HasAddress g.plan g.machine.mode)
key_described true g c even key =
    (expected g.careful g.machine.mode c (subst (λ mode. IsDescribed mode c) (sym key.1) (inr (inr (inl (key.0, refl, even))))), λ e. absurd (not_slash c 71 key.0 (differ 71 47 refl) e))
key_described false g c even key = before_described g c key

-- a harmless key is no `/`
harmless_no_slash : (c : ℕ) → is_harmless c ≡ true → c ≡ 47 → ⊥
harmless_no_slash c h is = let e : is_harmless 47 ≡ true = subst (λ x. is_harmless x ≡ true) is h in cc

or_described : (careful : Bool) (g : Ground) (c : ℕ) → g.careful ≡ careful → unwrap_or g.plan.start 0 % 2 ≡ 0 → LawfulOr careful g c → IsExpected g.careful g.machine.mode c × (c ≡ 47 → HasAddress g.plan g.machine.mode)
or_described false g c is even key = key_described g.going g c even key
or_described true g c is even (inl key) = key_described g.going g c even key
or_described true g c is even (inr h) = (subst (λ b. IsExpected b g.machine.mode c) (sym is) (inr h), λ e. absurd (harmless_no_slash c h e))

keys_described : (m : Machine) (core : Core) (down up : List ℕ) (lost : Toll) → IsKept (scene m core down up lost) → KeysAreDescribed core.careful core.plan m.mode down
keys_described m core [] up lost k = tt
keys_described m core (c ∷ down) up lost k = or_described core.careful (ground (scene m core (c ∷ down) up lost)) c refl (start_even core.plan k.host.image) (lawful m core c down up lost k)

-- ---- queues and causes

queues_short : (down up : List ℕ) → OneWay down up → length up ≤ 32 → QueuesAreShort down up
queues_short [] up one few = record { keys = lit≤ tt; answers = few; one_way = inl refl }
queues_short (c ∷ down) up one few = record { keys = let none = ap length one.0 in omega arith; answers = few; one_way = inr one.1 }

has_cause : (phase : Phase) (w : Scene) → InPhase phase (ground w) (site w) w.down w.up w.core.patience w.core.spent (toll_of w) → HasCause phase w.machine.memory w.core.patience w.core.spent w.lost
has_cause (Ended end) w h = h.1
has_cause phase w h = tt

losses_low : (careful changed : Bool) (lost up down most : ℕ) → lost + spare careful changed + up + 9 * down ≤ most → lost ≤ most
losses_low careful changed lost up down most before = omega (arith, before)

pub tame_of : (w : Scene) → IsKept w → IsTame w
tame_of w k = record {
  keys = keys_described w.machine w.core w.down w.up (toll_of w) k;
  queues = queues_short w.down w.up k.one_way k.few;
  spent = k.spent;
  cause = has_cause w.core.phase w k.phase;
  lost = losses_low w.core.careful w.changed w.lost (length w.up) (length w.down) (most_lost w.core.careful w.core.sent) k.characters;
  cared = k.cared;
  runs = (k.running, k.at_start);
}

-- ---- at most nine answers once nothing was under way

takes_short : (m : Machine) (core : Core) (down up : List ℕ) (lost : Toll) → IsKept (scene m core down up lost) → length up ≤ 9 → length (unwrap_or (takes (scene m core down up lost) down) (scene m core down up lost)).up ≤ 9
takes_short m core [] up lost k short = short
takes_short m core (c ∷ down) [] lost k short = (key_takes m core c down [] lost k).short
takes_short m core (c ∷ down) (d ∷ up) lost k short = let none = k.one_way.1 in absurd (cc)

hears_short : (w : Scene) (up : List ℕ) → length up ≤ 9 → length w.up ≤ 9 → length (unwrap_or (host_hears w up) w).up ≤ 9
hears_short w [] short here = here
hears_short w (c ∷ up) short here = omega arith

silence_short : (w : Scene) (down up : List ℕ) → length w.up ≤ 9 → length (unwrap_or (times_out w down up) w).up ≤ 9
silence_short w [] [] short = lit≤ tt
silence_short w (c ∷ down) up short = short
silence_short w [] (c ∷ up) short = short

pub short_event : (w : Scene) (event : Event) → IsKept w → length w.up ≤ 9 → length (happens w event).up ≤ 9
short_event w Take k short = takes_short w.machine w.core w.down w.up (toll_of w) k short
short_event w Hear k short = hears_short w w.up short short
short_event w (LoseDown n) k short = lost_if (λ x. length x.up ≤ 9) w _ (ltb n (length w.down)) short (λ e. short)
short_event w (LoseUp n) k short = lost_if (λ x. length x.up ≤ 9) w _ (ltb n (length w.up)) short (λ e. omega (arith, length-remove w.up n (under n _ e)))
short_event w (ChangeDown n c) k short = lost_if (λ x. length x.up ≤ 9) w _ (w.core.careful && (ltb n (length w.down) && may_change w.changed (slice_index w.down n) c)) short (λ e. short)
short_event w (ChangeUp n c) k short = lost_if (λ x. length x.up ≤ 9) w _ (w.core.careful && (ltb n (length w.up) && not w.changed)) short (λ e. omega (arith, length-set w.up n c))
short_event w Quiet k short = silence_short w w.down w.up short
short_event w (Restart kept) k short = short

pub short_events : (w : Scene) (events : List Event) → IsKept w → length w.up ≤ 9 → length (after w events).up ≤ 9
short_events w [] k short = short
short_events w (event ∷ events) k short = short_events (happens w event) events (kept_event w event k) (short_event w event k short)

timed_out : (w : Scene) (down up : List ℕ) → is_some (times_out w down up) ≡ true → length (unwrap_or (times_out w down up) w).up ≤ 9
timed_out w [] [] e = lit≤ tt
timed_out w (c ∷ down) up e = absurd (cc)
timed_out w [] (c ∷ up) e = absurd (cc)

pub silent_event : (w : Scene) (event : Event) → is_timeout w event ≡ true → length (happens w event).up ≤ 9
silent_event w Take e = absurd (cc)
silent_event w Hear e = absurd (cc)
silent_event w (LoseDown n) e = absurd (cc)
silent_event w (LoseUp n) e = absurd (cc)
silent_event w (ChangeDown n c) e = absurd (cc)
silent_event w (ChangeUp n c) e = absurd (cc)
silent_event w Quiet e = timed_out w w.down w.up e
silent_event w (Restart kept) e = absurd (cc)

pub silent_events : (w : Scene) (events : List Event) → IsKept w → had_timeout w events ≡ true → length (after w events).up ≤ 9
silent_events w [] k e = absurd (cc)
silent_events w (event ∷ events) k e = one (is_timeout w event) (had_timeout (happens w event) events) e
    (λ now. short_events (happens w event) events (kept_event w event k) (silent_event w event now))
    (λ later. silent_events (happens w event) events (kept_event w event k) later)
  where
    one : {P : Type 0} (a b : Bool) → (a || b) ≡ true → (a ≡ true → P) → (b ≡ true → P) → P
    one true b e f g = f refl
    one false b e f g = g e
