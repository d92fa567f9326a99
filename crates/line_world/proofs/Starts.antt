-- `G` is typed at most once, and exactly where the mark is set.
use Rattle.std.proofs.Common.{◌≡◌, ℕ, zero, suc, ◌+◌, ◌⊎◌, Bool, true, false, ltb, not, ◌&&◌, Some, None, Option, List, [], ◌∷◌, ◌++◌, length, unwrap_or, inl, inr, refl, arith, ap, sym, subst, ◌∙◌}
use Rattle.std.specs.Prelude.{option_to_list, Contains, slice_index}
use Rattle.std.proofs.lemmas.Bool.Decides.{nat_tests}
use Rattle.octal.specs.Octal.{digit_of, is_digit}
use Rattle.odt_machine.specs.Machine.{Machine}
use Rattle.host_core.specs.declared.heard.Heard.{Heard}
use Rattle.host_core.specs.declared.heard.Heard.TheVariants.{Got, Quiet as Silence}
use Rattle.host_core.specs.declared.phase.Visit.TheVariants.{Look}
use Rattle.host_core.specs.declared.phase.End.TheVariants.{GaveUp}
use Rattle.host_core.specs.declared.phase.Phase.TheVariants.{Settle, Sync, Address, Ended}
use Rattle.host_core.specs.declared.turn.Turn.{Turn}
use Rattle.host_core.specs.declared.turn.Turn.TheVariants.{Listen, Key, Verified, Revisit, Next, Mark, Stop, Stray, Timeout}
use Rattle.host_core.specs.Console.{resynchronise_of}
use Rattle.host_core.specs.Core.{Core, word_under_way, restarted}
use Rattle.host_core.specs.PhaseTable.{Move, move, taken, turn_of, sends, listens, after_words}
use Rattle.host_core.proofs.Turns.{kept}
use Rattle.host_core.proofs.Frame.{moved, silent, on_move}
use Rattle.line_world.specs.declared.event.Event.{Event}
use Rattle.line_world.specs.declared.event.Event.TheVariants.{Take, Hear, LoseDown, LoseUp, ChangeDown, ChangeUp, Quiet, Restart}
use Rattle.line_world.specs.Scene.{Toll}
use Rattle.line_world.specs.Scene.{Scene, toll_of}
use Rattle.line_world.specs.World.{takes, host_hears, times_out, happens, after, typed_hearing, typed_timeout, typed_in, typed}
use Rattle.line_world.specs.Wire.{is_harmless, may_change}
use Rattle.line_world.proofs.Stepped.{onward, stepped}
use Rattle.line_world.specs.Site.{Ground, ground}
use Rattle.line_world.specs.Lawful.{LawfulBefore, LawfulKey, LawfulOr}
use Rattle.line_world.specs.Invariant.{IsKept}
use Rattle.line_world.specs.Promises.{EndsAtGo, StartsOnce}
use Rattle.line_world.proofs.Frame.{scene}
use Rattle.line_world.proofs.Parts.{differ}
use Rattle.line_world.proofs.Keys.{lawful}
use Rattle.line_world.proofs.Events.{kept_event, lost_if}
use Rattle.line_world.proofs.Silence.{kept_silence}
use Rattle.line_world.proofs.Heard.{kept_hear}

-- ---- lists with `G`

has_more : (c d : ℕ) (xs : List ℕ) → Contains xs c → Contains (d ∷ xs) c
has_more c d xs h = (suc h.0, let below = h.1 in omega arith, h.2)

has_left : (c : ℕ) (xs ys : List ℕ) → Contains xs c → Contains (xs ++ ys) c
has_left c [] ys h = absurd (let below = h.1 in omega arith)
has_left c (x ∷ xs) ys (zero, below, here) = (zero, omega arith, here)
has_left c (x ∷ xs) ys (suc k, below, here) = has_more c x (xs ++ ys) (has_left c xs ys (k, omega arith, here))

has_right : (c : ℕ) (xs ys : List ℕ) → Contains ys c → Contains (xs ++ ys) c
has_right c [] ys h = h
has_right c (x ∷ xs) ys h = has_more c x (xs ++ ys) (has_right c xs ys h)

has_either : (c : ℕ) (xs ys : List ℕ) → Contains (xs ++ ys) c → Contains xs c ⊎ Contains ys c
has_either c [] ys h = inr h
has_either c (x ∷ xs) ys (zero, below, here) = inl (zero, omega arith, here)
has_either c (x ∷ xs) ys (suc k, below, here) = elim (has_either c xs ys (k, omega arith, here)) [ inl left ↦ inl (has_more c x xs left) | inr right ↦ inr right ]

none_left : (xs ys : List ℕ) → xs ≡ [] → ys ≡ [] → xs ++ ys ≡ []
none_left [] ys e f = f
none_left (x ∷ xs) ys e f = absurd (cc)

-- nothing follows `G`, in the first keys or in the keys after them
pub ends_join : (xs ys : List ℕ) → EndsAtGo xs → EndsAtGo ys → (Contains xs 71 → ys ≡ []) → EndsAtGo (xs ++ ys)
ends_join [] ys one other last = other
ends_join (x ∷ xs) ys one other last =
    (λ g. none_left xs ys (one.0 g) (last (zero, omega arith, g)), ends_join xs ys one.1 other (λ h. last (has_more 71 x xs h)))

-- ---- one stretch after another

not_both : (b : Bool) → b ≡ false → b ≡ true → ⊥
not_both b e f = cc

unset : (a b : Bool) → (a ≡ true → b ≡ true) → b ≡ false → a ≡ false
unset true b up e = absurd (not_both b e (up refl))
unset false b up e = refl

starts_join : (a b c : Core) (xs ys : List ℕ) → StartsOnce a b xs → StartsOnce b c ys → StartsOnce a c (xs ++ ys)
starts_join a b c xs ys x y = record {
  last = ends_join xs ys x.last y.last (λ h. y.silent (x.marked.0 h).1);
  silent = λ e. none_left xs ys (x.silent e) (y.silent (x.stays e));
  marked = (
    λ h. elim (has_either 71 xs ys h) [
      | inl left ↦ ((x.marked.0 left).0, y.stays (x.marked.0 left).1)
      | inr right ↦ (unset a.going b.going x.stays (y.marked.0 right).0, (y.marked.0 right).1)
    ],
    λ (e, f). elim b.going as (λ v. b.going ≡ v → Contains (xs ++ ys) 71) [
      | true ↦ λ now. has_left 71 xs ys (x.marked.1 (e, now))
      | false ↦ λ later. has_right 71 xs ys (y.marked.1 (later, f))
    ] refl,
  );
  stays = λ e. y.stays (x.stays e);
}

-- ---- one event

-- nothing is typed, and the mark stays
mark_kept : (before after : Core) → after.going ≡ before.going → StartsOnce before after []
mark_kept before after same = record {
  last = tt;
  silent = λ e. refl;
  marked = (λ h. absurd (let below = h.1 in omega arith), λ (e, f). absurd (not_both before.going e (sym same ∙ f)));
  stays = λ e. same ∙ e;
}

nothing_typed : (core : Core) → StartsOnce core core []
nothing_typed core = mark_kept core core refl

-- the mark is set by the turn that sends `G`
mark_sends : (core : Core) (turn : Turn) → core.going ≡ false → (taken core turn).next.going ≡ true → (taken core turn).key ≡ Some 71
mark_sends core (Listen phase) e f = absurd (not_both core.going e f)
mark_sends core (Key key phase) e f = absurd (not_both core.going e f)
mark_sends core Verified e f = absurd (not_both core.going e f)
mark_sends core (Revisit visit) e f = absurd (not_both core.going e f)
mark_sends core Next e f = absurd (not_both core.going e (next_same core f))
  where
    words_same : (core : Core) (start : Option ℕ) → (after_words core start).next.going ≡ core.going
    words_same core None = refl
    words_same core (Some s) = refl

    next_same : (core : Core) → (taken core Next).next.going ≡ true → core.going ≡ true
    next_same core f = sym (on_move (λ m. m.next.going ≡ core.going) (ltb core.verified (length core.plan.words)) (sends core (digit_of (word_under_way core).address 1) (Address Look 1)) (after_words core core.plan.start) (λ _. refl) (λ _. words_same core core.plan.start)) ∙ f
mark_sends core Mark e f = refl
mark_sends core (Stop end) e f = absurd (not_both core.going e f)
mark_sends core Stray e f = absurd (not_both core.going e (sym (on_move (λ m. m.next.going ≡ core.going) (ltb core.spent core.patience) (listens (record core { spent = core.spent + 1 }) Settle) (listens core (Ended GaveUp)) (λ _. refl) (λ _. refl)) ∙ f))
mark_sends core Timeout e f = absurd (not_both core.going e (sym (on_move (λ m. m.next.going ≡ core.going) (ltb core.spent core.patience) (sends (record core { spent = core.spent + 1 }) (resynchronise_of core.careful) (Sync 0)) (listens core (Ended GaveUp)) (λ _. refl) (λ _. refl)) ∙ f))

-- a lawful `G` has the mark
no_key : (careful : Bool) → resynchronise_of careful ≡ 71 → ⊥
no_key true e = omega arith
no_key false e = omega arith

before_no_go : (g : Ground) (c : ℕ) → c ≡ 71 → LawfulBefore g c → ⊥
before_no_go g c is (inl (digit, takes)) = no_digit c is digit
  where
    no_digit : (c : ℕ) → c ≡ 71 → is_digit c ≡ true → ⊥
    no_digit c is digit = grind (arith, nat_tests)
before_no_go g c is (inr (inl (same, takes))) = differ 47 71 refl (sym same ∙ is)
before_no_go g c is (inr (inr (inl (same, takes)))) = differ 13 71 refl (sym same ∙ is)
before_no_go g c is (inr (inr (inr (same, takes)))) = no_key g.careful (sym same ∙ is)

key_marked : (going : Bool) (g : Ground) (c : ℕ) → c ≡ 71 → LawfulKey going g c → going ≡ true
key_marked true g c is key = refl
key_marked false g c is key = absurd (before_no_go g c is key)

go_marked : (careful : Bool) (g : Ground) (c : ℕ) → c ≡ 71 → LawfulOr careful g c → g.going ≡ true
go_marked false g c is key = key_marked g.going g c is key
go_marked true g c is (inl key) = key_marked g.going g c is key
go_marked true g c is (inr h) = absurd (no_harm c is h)
  where
    no_harm : (c : ℕ) → c ≡ 71 → is_harmless c ≡ true → ⊥
    no_harm c is h = let e : is_harmless 71 ≡ true = subst (λ x. is_harmless x ≡ true) is h in cc

sent_marked : (m : Machine) (w : Scene) (up : List ℕ) (x : Move) → w.down ≡ [] → IsKept (stepped w up x) → x.key ≡ Some 71 → x.next.going ≡ true
sent_marked m w up x none k sent = by_down w.machine x.next (w.down ++ option_to_list x.key) up (onward x.key x.next.phase (toll_of w)) k (rw (none, sent) refl)
  where
    by_down : (m : Machine) (core : Core) (down up : List ℕ) (lost : Toll) → IsKept (scene m core down up lost) → down ≡ 71 ∷ [] → core.going ≡ true
    by_down m core [] up lost k e = absurd (cc)
    by_down m core (c ∷ down) up lost k e = go_marked core.careful (ground (scene m core (c ∷ down) up lost)) c (cc) (lawful m core c down up lost k)

key_list : (before after : Core) (key : Option ℕ) → (before.going ≡ true → key ≡ None) → (key ≡ Some 71 → after.going ≡ true) → (before.going ≡ false → after.going ≡ true → key ≡ Some 71) → (before.going ≡ true → after.going ≡ true) → StartsOnce before after (option_to_list key)
key_list before after None silent sent marks stays = record {
  last = tt;
  silent = λ e. refl;
  marked = (λ h. absurd (let below = h.1 in omega arith), λ (e, f). let never = marks e f in absurd (cc));
  stays = stays;
}
key_list before after (Some c) silent sent marks stays = record {
  last = (λ e. refl, tt);
  silent = λ e. let never = silent e in absurd (cc);
  marked = (λ h. let is = only c h in (unmarked before.going (λ e. let never = silent e in absurd (cc)), sent (ap (λ x. Some x) is)), λ (e, f). here c (marks e f));
  stays = stays;
}
  where
    only : (c : ℕ) → Contains (c ∷ []) 71 → c ≡ 71
    only c (zero, below, here) = here
    only c (suc k, below, here) = absurd (omega arith)

    unmarked : (b : Bool) → (b ≡ true → ⊥) → b ≡ false
    unmarked true h = absurd (h refl)
    unmarked false h = refl

    here : (c : ℕ) → Some c ≡ Some 71 → Contains (c ∷ []) 71
    here c e = (zero, omega arith, (cc))

starts_move : (m : Machine) (core : Core) (heard : Heard) (old up : List ℕ) (lost : Toll) → IsKept (scene m core [] old lost) → IsKept (stepped (scene m core [] old lost) up (move core heard)) → StartsOnce core (move core heard).next (option_to_list (move core heard).key)
starts_move m core heard old up lost k next =
    key_list core (move core heard).next (move core heard).key
    (λ e. (silent core heard k.host e).key)
    (sent_marked m (scene m core [] old lost) up (move core heard) refl next)
    (mark_sends core (turn_of core heard))
    (moved core heard).going

hearing_starts : (m : Machine) (core : Core) (down up : List ℕ) (lost : Toll) → IsKept (scene m core down up lost) → StartsOnce core (unwrap_or (host_hears (scene m core down up lost) up) (scene m core down up lost)).core (typed_hearing (scene m core down up lost) up)
hearing_starts m core down [] lost k = nothing_typed core
hearing_starts m core (d ∷ down) (c ∷ up) lost k = let none = k.one_way.1 in absurd (cc)
hearing_starts m core [] (c ∷ up) lost k = starts_move m core (Got c) (c ∷ up) up lost k (kept_hear m core c [] up lost (kept core (Got c) k.host) k)

timeout_starts : (m : Machine) (core : Core) (down up : List ℕ) (lost : Toll) → IsKept (scene m core down up lost) → StartsOnce core (unwrap_or (times_out (scene m core down up lost) down up) (scene m core down up lost)).core (typed_timeout (scene m core down up lost) down up)
timeout_starts m core [] [] lost k = starts_move m core Silence [] [] lost k (kept_silence m core lost (kept core Silence k.host) k)
timeout_starts m core (c ∷ down) up lost k = nothing_typed core
timeout_starts m core [] (c ∷ up) lost k = nothing_typed core

taking_starts : (w : Scene) (down : List ℕ) → StartsOnce w.core (unwrap_or (takes w down) w).core []
taking_starts w [] = nothing_typed w.core
taking_starts w (c ∷ down) = nothing_typed w.core

pub starts_event : (w : Scene) (event : Event) → IsKept w → StartsOnce w.core (happens w event).core (typed_in w event)
starts_event w Take k = taking_starts w w.down
starts_event w Hear k = hearing_starts w.machine w.core w.down w.up (toll_of w) k
starts_event w (LoseDown n) k = lost_if (λ x. StartsOnce w.core x.core []) w _ (ltb n (length w.down)) (nothing_typed w.core) (λ e. nothing_typed w.core)
starts_event w (LoseUp n) k = lost_if (λ x. StartsOnce w.core x.core []) w _ (ltb n (length w.up)) (nothing_typed w.core) (λ e. nothing_typed w.core)
starts_event w (ChangeDown n c) k = lost_if (λ x. StartsOnce w.core x.core []) w _ (w.core.careful && (ltb n (length w.down) && may_change w.changed (slice_index w.down n) c)) (nothing_typed w.core) (λ e. nothing_typed w.core)
starts_event w (ChangeUp n c) k = lost_if (λ x. StartsOnce w.core x.core []) w _ (w.core.careful && (ltb n (length w.up) && not w.changed)) (nothing_typed w.core) (λ e. nothing_typed w.core)
starts_event w Quiet k = timeout_starts w.machine w.core w.down w.up (toll_of w) k
starts_event w (Restart kept) k = mark_kept w.core (restarted w.core kept) refl

pub starts_events : (w : Scene) (events : List Event) → IsKept w → StartsOnce w.core (after w events).core (typed w events)
starts_events w [] k = nothing_typed w.core
starts_events w (event ∷ events) k = starts_join w.core (happens w event).core (after (happens w event) events).core (typed_in w event) (typed (happens w event) events) (starts_event w event k) (starts_events (happens w event) events (kept_event w event k))
