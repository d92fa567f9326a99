-- Lawful keys: a phase's own key is lawful, and ODT takes a lawful key without harm.
use Rattle.std.proofs.Common.{◌≡◌, ℕ, ◌-◌, ◌%◌, ◌<◌, ◌≤◌, ◌⊎◌, Bool, true, false, eqb, not, ◌&&◌, List, [], ◌∷◌, length, unwrap_or, inl, inr, refl, sym, subst, lit<, lit≤}
use Rattle.std.specs.Prelude.{if◌then◌else◌}
use Rattle.octal.specs.Octal.{is_digit, digit_of, head}
use Rattle.odt_machine.specs.declared.style.Style.{Style}
use Rattle.odt_machine.specs.declared.mode.Mode.{Mode}
use Rattle.odt_machine.specs.declared.mode.Mode.TheVariants.{Prompt, Number, Opened, Typing, Running}
use Rattle.odt_machine.specs.declared.key.Key.TheVariants.{Digit, Other}
use Rattle.odt_machine.specs.Key.{key_of}
use Rattle.odt_machine.specs.Machine.{Machine, IsMachine, ModeFits, is_word, word_at, stored}
use Rattle.odt_machine.specs.Answer.{prompt_text, word_text, illegal_text}
use Rattle.odt_machine.specs.KeyTable.{Taken, row, take_of}
use Rattle.host_core.specs.declared.phase.Reason.TheVariants.{Store, Reopen, Missing, Close}
use Rattle.host_core.specs.declared.phase.Phase.{Phase}
use Rattle.host_core.specs.declared.phase.Phase.TheVariants.{Settle, Sync, Address, Slash, Before, Value, Deposit, Return, Start, Go, Ended}
use Rattle.host_core.specs.Console.{resynchronise_of}
use Rattle.host_core.specs.Core.{Core, word_nr, start_of}
use Rattle.host_core.specs.Host.{basis_of, PhaseFits, IsPastMark, IsPlace}
use Rattle.line_world.specs.Scene.{Toll}
use Rattle.line_world.specs.Wire.{is_harmless}
use Rattle.line_world.specs.Site.{site, wanted, Lies, number_mode, typing_mode, Ground, ground, site_in}
use Rattle.line_world.specs.Pending.{IsStopped, IsOpened, Fits}
use Rattle.line_world.specs.Struck.{Attempt}
use Rattle.line_world.specs.Lawful.{TakesDigit, TakesSlash, TakesReturn, LawfulBefore, LawfulKey, LawfulOr}
use Rattle.line_world.specs.Invariant.{IsKept, RunsWith, RunsAt}
use Rattle.line_world.proofs.Digits.{digit_is, at_place}
use Rattle.line_world.proofs.Frame.{scene, PhaseHolds}
use Rattle.line_world.proofs.Rows.{row_go, row_resync}
use Rattle.line_world.proofs.Silence.{past_mark}

unmarked : (going : Bool) → (going ≡ true → ⊥) → going ≡ false
unmarked true h = absurd (h refl)
unmarked false h = refl

before_mark : (g : Ground) (c : ℕ) → (g.going ≡ true → ⊥) → LawfulBefore g c → LawfulKey g.going g c
before_mark g c h lawful = subst (λ b. LawfulKey b g c) (sym (unmarked g.going h)) lawful

digit_of_is : (w k : ℕ) → is_digit (digit_of w k) ≡ true
digit_of_is w k = digit_is (head w k)

number_takes : (w k : ℕ) → IsPlace k → TakesDigit (number_mode w (k - 1))
number_takes w = at_place (λ k. TakesDigit (number_mode w (k - 1))) tt (lit< tt) (lit< tt) (lit< tt) (lit< tt) (lit< tt)

typing_takes : (a w k : ℕ) → IsPlace k → TakesDigit (typing_mode a w (k - 1))
typing_takes a w = at_place (λ k. TakesDigit (typing_mode a w (k - 1))) tt (lit< tt) (lit< tt) (lit< tt) (lit< tt) (lit< tt)

opened_takes : (g : Ground) (mode : Mode) → IsOpened mode → TakesReturn g mode
opened_takes g Prompt h = absurd h
opened_takes g (Number v n) h = absurd h
opened_takes g (Opened a) h = tt
opened_takes g (Typing a v n) h = absurd h
opened_takes g (Running p) h = absurd h

pub typing_lies : (m : Machine) (a v n : ℕ) → IsMachine m → m.mode ≡ Typing a v n → is_word m.memory a ≡ true
typing_lies m a v n is mode = (subst (ModeFits m.memory) mode is.mode).0

-- the key that a phase waits for is lawful
fits_lawful : (phase : Phase) (m : Machine) (core : Core) (c : ℕ) (lost : Toll) → IsMachine m → PhaseFits phase (basis_of core) → (core.going ≡ true → IsPastMark phase) → Fits phase (site (scene m core (c ∷ []) [] lost)) m.mode c →
    LawfulKey core.going (ground (scene m core (c ∷ []) [] lost)) c
fits_lawful Settle m core c lost machine fits past key = absurd key
fits_lawful (Ended end) m core c lost machine fits past key = absurd key
fits_lawful (Sync k) m core c lost machine fits past key = before_mark _ c past (inr (inr (inr (key.1, key.2))))
fits_lawful (Address visit k) m core c lost machine fits past key =
    let a = (word_nr core.plan.words core.verified).address in
    before_mark _ c past (inl (rw key.0 (digit_of_is a k), rw key.1 (number_takes a k fits.1)))
fits_lawful (Slash visit) m core c lost machine fits past key =
    before_mark _ c past (inr (inl (key.0, rw key.1 (core.verified, fits.0, refl, refl))))
fits_lawful (Before visit) m core c lost machine fits past key = absurd key
fits_lawful (Value visit v j) m core c lost machine fits past key = absurd key
fits_lawful (Deposit deposit x k) m core c lost machine fits past key =
    before_mark _ c past (inl (rw key.0 (digit_of_is x k), rw key.1 (typing_takes (word_nr core.plan.words core.verified).address x k fits.1)))
fits_lawful (Return (Store deposit x) k) m core c lost machine fits past key =
    let lies = typing_lies m _ _ 6 machine key.2 in
    before_mark _ c past (inr (inr (inl (key.1, rw key.2 (core.verified, fits.0, lies, refl, refl, refl)))))
fits_lawful (Return (Reopen r) k) m core c lost machine fits past key = before_mark _ c past (inr (inr (inl (key.1, opened_takes (ground (scene m core (c ∷ []) [] lost)) m.mode key.2))))
fits_lawful (Return (Missing a) k) m core c lost machine fits past key = absurd key
fits_lawful (Return Close k) m core c lost machine fits past key = before_mark _ c past (inr (inr (inl (key.1, opened_takes (ground (scene m core (c ∷ []) [] lost)) m.mode key.2))))
fits_lawful (Start k) m core c lost machine fits past key =
    before_mark _ c past (inl (rw key.0 (digit_of_is (start_of core) k), rw key.1 (number_takes (start_of core) k fits.1)))
fits_lawful Go m core c lost machine fits past key = subst (λ b. LawfulKey b (ground (scene m core (c ∷ []) [] lost)) c) (sym fits.1) key

unchanged : (careful : Bool) (g : Ground) (c : ℕ) → LawfulKey g.going g c → LawfulOr careful g c
unchanged true g c h = inl h
unchanged false g c h = h

pub harmless_lawful : (careful : Bool) (g : Ground) (c : ℕ) → careful ≡ true → is_harmless c ≡ true → LawfulOr careful g c
harmless_lawful true g c is h = inr h
harmless_lawful false g c is h = absurd (cc)

-- the same in an attempt, in which the key may have been changed
attempt_lawful : (hurt : Bool) (phase : Phase) (m : Machine) (core : Core) (c : ℕ) (lost : Toll) → IsMachine m → PhaseFits phase (basis_of core) → (core.going ≡ true → IsPastMark phase) →
    Attempt hurt phase (site (scene m core (c ∷ []) [] lost)) m.mode (c ∷ []) [] core.spent lost.count → (hurt ≡ true → core.careful ≡ true) → LawfulOr core.careful (ground (scene m core (c ∷ []) [] lost)) c
attempt_lawful false phase m core c lost machine fits past h cared = unchanged core.careful _ c (fits_lawful phase m core c lost machine fits past h.key)
attempt_lawful true phase m core c lost machine fits past (due, inl h) cared = unchanged core.careful _ c (fits_lawful phase m core c lost machine fits past h.key)
attempt_lawful true phase m core c lost machine fits past (due, inr h) cared = harmless_lawful core.careful _ c (cared refl) h.way.0

phase_lawful : (phase : Phase) (m : Machine) (core : Core) (c : ℕ) (lost : Toll) → IsMachine m → PhaseFits phase (basis_of core) → (core.going ≡ true → IsPastMark phase) → PhaseHolds phase m core (c ∷ []) [] lost → (lost.hurt ≡ true → core.careful ≡ true) →
    LawfulOr core.careful (ground (scene m core (c ∷ []) [] lost)) c
phase_lawful Settle m core c lost machine fits past h cared = h
phase_lawful (Ended end) m core c lost machine fits past h cared = h.0
phase_lawful phase m core c lost machine fits past h cared = attempt_lawful lost.hurt phase m core c lost machine fits past h cared

-- a key under way is lawful, in every world
pub lawful : (m : Machine) (core : Core) (c : ℕ) (down up : List ℕ) (lost : Toll) → IsKept (scene m core (c ∷ down) up lost) → LawfulOr core.careful (ground (scene m core (c ∷ down) up lost)) c
lawful m core c [] [] lost k = phase_lawful core.phase m core c lost k.machine k.host.fits (past_mark core k.host.mark) k.phase k.cared
lawful m core c (d ∷ down) up lost k = let none = k.one_way.0 in absurd (cc)
lawful m core c [] (u ∷ up) lost k = let none = k.one_way.1 in absurd (cc)

-- memory stays, or one word of the plan is merged in place
abbrev pub Stores : Ground → List ℕ → Type 0
Stores g memory =
    (memory ≡ g.machine.memory)
    ⊎ ((i : ℕ) × (i < length g.plan.words) × Lies (site_in g i) × (memory ≡ stored g.machine.memory (word_nr g.plan.words i).address (wanted (site_in g i))))

-- what a lawful key makes of the machine
pub record Takes (g : Ground) (taken : Taken) : Type 0 where
  pub memory : Stores g taken.memory
  pub running : RunsWith g.going taken.mode
  pub at_start : RunsAt (unwrap_or g.plan.start 0) taken.mode
  pub short : length taken.answer ≤ 9

short_if : (b : Bool) (xs ys : List ℕ) → length xs ≤ 9 → length ys ≤ 9 → length (if b then xs else ys) ≤ 9
short_if true xs ys f g = f
short_if false xs ys f g = g

short_prompt : (s : Style) → length (prompt_text s) ≤ 9
short_prompt s = short_if s.two_returns _ _ (lit≤ tt) (lit≤ tt)

-- an answer with one or two characters before the prompt
short_more : (two : Bool) (c d : ℕ) → length (c ∷ d ∷ (if two then 13 ∷ 13 ∷ 10 ∷ 64 ∷ [] else 13 ∷ 10 ∷ 64 ∷ [])) ≤ 9
short_more true c d = lit≤ tt
short_more false c d = lit≤ tt

short_one : (two : Bool) (c : ℕ) → length (c ∷ (if two then 13 ∷ 13 ∷ 10 ∷ 64 ∷ [] else 13 ∷ 10 ∷ 64 ∷ [])) ≤ 9
short_one true c = lit≤ tt
short_one false c = lit≤ tt

short_word : (space : Bool) (s : Style) (c w : ℕ) → s.space_before ≡ space → length (c ∷ word_text s w) ≤ 9
short_word true s c w e = rw e (lit≤ tt)
short_word false s c w e = rw e (lit≤ tt)

takes_if : (g : Ground) (b : Bool) (x y : Taken) → Takes g x → Takes g y → Takes g (if b then x else y)
takes_if g true x y f h = f
takes_if g false x y f h = h

digit_takes : (g : Ground) (c : ℕ) (mode : Mode) → key_of c ≡ Digit → TakesDigit mode → Takes g (row g.machine.style g.machine.memory mode (key_of c) c)
digit_takes g c Prompt key takes = rw key (record { memory = inl refl; running = tt; at_start = tt; short = lit≤ tt })
digit_takes g c (Number v n) key takes = rw key (record { memory = inl refl; running = tt; at_start = tt; short = lit≤ tt })
digit_takes g c (Opened a) key takes = rw key (record { memory = inl refl; running = tt; at_start = tt; short = lit≤ tt })
digit_takes g c (Typing a v n) key takes = rw key (record { memory = inl refl; running = tt; at_start = tt; short = lit≤ tt })
digit_takes g c (Running p) key takes = absurd takes

slash_takes : (g : Ground) (mode : Mode) → TakesSlash g mode → Takes g (row g.machine.style g.machine.memory mode (key_of 47) 47)
slash_takes g Prompt takes = absurd takes
slash_takes g (Number v n) takes =
    takes_if g (is_word g.machine.memory v) _ _
    (record { memory = inl refl; running = tt; at_start = tt; short = short_word g.machine.style.space_before g.machine.style 47 (word_at g.machine.memory v) refl })
    (record { memory = inl refl; running = tt; at_start = tt; short = short_more g.machine.style.two_returns 47 63 })
slash_takes g (Opened a) takes = absurd takes
slash_takes g (Typing a v n) takes = absurd takes
slash_takes g (Running p) takes = absurd takes

return_takes : (g : Ground) (mode : Mode) → TakesReturn g mode → Takes g (row g.machine.style g.machine.memory mode (key_of 13) 13)
return_takes g Prompt takes = absurd takes
return_takes g (Number v n) takes = absurd takes
return_takes g (Opened a) takes = record { memory = inl refl; running = tt; at_start = tt; short = short_prompt g.machine.style }
return_takes g (Typing a v n) takes = record {
  memory = inr (takes.0, takes.1, takes.2, same_store g.machine.memory a _ v _ takes.4 takes.5);
  running = tt;
  at_start = tt;
  short = short_prompt g.machine.style;
}
  where
    same_store : (memory : List ℕ) (a b v w : ℕ) → a ≡ b → v ≡ w → stored memory a v ≡ stored memory b w
    same_store memory a b v w e f = rw (e, f) refl
return_takes g (Running p) takes = absurd takes

short_illegal : (s : Style) (c : ℕ) → length (illegal_text s c) ≤ 9
short_illegal s c = short_if s.echo_illegal _ _ (short_more s.two_returns c 63) (short_one s.two_returns 63)

resync_takes : (g : Ground) (mode : Mode) → IsStopped mode → Takes g (row g.machine.style g.machine.memory mode (key_of (resynchronise_of g.careful)) (resynchronise_of g.careful))
resync_takes g mode stopped =
    rw (row_resync g.careful g.machine.style g.machine.memory mode stopped) (record { memory = inl refl; running = tt; at_start = tt; short = short_illegal g.machine.style (resynchronise_of g.careful) })

go_takes : (g : Ground) (mode : Mode) → unwrap_or g.plan.start 0 % 2 ≡ 0 → g.going ≡ true → mode ≡ number_mode (unwrap_or g.plan.start 0) 6 → Takes g (row g.machine.style g.machine.memory mode (key_of 71) 71)
go_takes g mode even going is = rw (is, row_go g.machine.style g.machine.memory (unwrap_or g.plan.start 0) 6 even) (record { memory = inl refl; running = going; at_start = refl; short = lit≤ tt })

-- the three tests of a harmless key
harmless_tests : (a b d : Bool) → (not a && (not b && not d)) ≡ true → (a ≡ false) × (b ≡ false) × (d ≡ false)
harmless_tests false false false e = (refl, refl, refl)
harmless_tests true b d e = absurd (cc)
harmless_tests false true d e = absurd (cc)
harmless_tests false false true e = absurd (cc)

harmless_other : (c : ℕ) → is_digit c ≡ false → is_harmless c ≡ true → key_of c ≡ Other
harmless_other c e h = let tests = harmless_tests (eqb c 13) (eqb c 47) (eqb c 71) h in rw (e, tests.0, tests.1, tests.2) refl

digit_key_of : (c : ℕ) → is_digit c ≡ true → key_of c ≡ Digit
digit_key_of c e = rw e refl

-- what a harmless key makes of the machine: its own echo, or the refusal, or nothing where a program runs
pub record Harmless (g : Ground) (c : ℕ) (taken : Taken) : Type 0 where
  pub memory : taken.memory ≡ g.machine.memory
  pub running : RunsWith g.going taken.mode
  pub at_start : RunsAt (unwrap_or g.plan.start 0) taken.mode
  pub short : length taken.answer ≤ 9
  pub answer : (taken.answer ≡ []) ⊎ (((taken.answer ≡ c ∷ []) × (is_digit c ≡ true)) ⊎ ((taken.answer ≡ illegal_text g.machine.style c) × (taken.mode ≡ Prompt)))

harmless_digit : (g : Ground) (c : ℕ) (mode : Mode) → is_digit c ≡ true → RunsWith g.going mode → RunsAt (unwrap_or g.plan.start 0) mode → Harmless g c (row g.machine.style g.machine.memory mode (key_of c) c)
harmless_digit g c Prompt e runs at = rw (digit_key_of c e) (record { memory = refl; running = tt; at_start = tt; short = lit≤ tt; answer = inr (inl (refl, e)) })
harmless_digit g c (Number v n) e runs at = rw (digit_key_of c e) (record { memory = refl; running = tt; at_start = tt; short = lit≤ tt; answer = inr (inl (refl, e)) })
harmless_digit g c (Opened a) e runs at = rw (digit_key_of c e) (record { memory = refl; running = tt; at_start = tt; short = lit≤ tt; answer = inr (inl (refl, e)) })
harmless_digit g c (Typing a v n) e runs at = rw (digit_key_of c e) (record { memory = refl; running = tt; at_start = tt; short = lit≤ tt; answer = inr (inl (refl, e)) })
harmless_digit g c (Running p) e runs at = record { memory = refl; running = runs; at_start = at; short = lit≤ tt; answer = inl refl }

harmless_illegal : (g : Ground) (c : ℕ) (mode : Mode) → key_of c ≡ Other → RunsWith g.going mode → RunsAt (unwrap_or g.plan.start 0) mode → Harmless g c (row g.machine.style g.machine.memory mode (key_of c) c)
harmless_illegal g c Prompt e runs at = rw e (record { memory = refl; running = tt; at_start = tt; short = short_illegal g.machine.style c; answer = inr (inr (refl, refl)) })
harmless_illegal g c (Number v n) e runs at = rw e (record { memory = refl; running = tt; at_start = tt; short = short_illegal g.machine.style c; answer = inr (inr (refl, refl)) })
harmless_illegal g c (Opened a) e runs at = rw e (record { memory = refl; running = tt; at_start = tt; short = short_illegal g.machine.style c; answer = inr (inr (refl, refl)) })
harmless_illegal g c (Typing a v n) e runs at = rw e (record { memory = refl; running = tt; at_start = tt; short = short_illegal g.machine.style c; answer = inr (inr (refl, refl)) })
harmless_illegal g c (Running p) e runs at = record { memory = refl; running = runs; at_start = at; short = lit≤ tt; answer = inl refl }

pub takes_harmless : (g : Ground) (c : ℕ) → RunsWith g.going g.machine.mode → RunsAt (unwrap_or g.plan.start 0) g.machine.mode → is_harmless c ≡ true → Harmless g c (take_of g.machine c)
takes_harmless g c runs at h =
    elim (is_digit c) as (λ b. is_digit c ≡ b → Harmless g c (take_of g.machine c)) [
      | true ↦ λ e. harmless_digit g c g.machine.mode e runs at
      | false ↦ λ e. harmless_illegal g c g.machine.mode (harmless_other c e h) runs at
    ] refl

harmless_takes : (g : Ground) (c : ℕ) → RunsWith g.going g.machine.mode → RunsAt (unwrap_or g.plan.start 0) g.machine.mode → is_harmless c ≡ true → Takes g (take_of g.machine c)
harmless_takes g c runs at h = let made = takes_harmless g c runs at h in record { memory = inl made.memory; running = made.running; at_start = made.at_start; short = made.short }

-- ODT takes a lawful key without harm
takes_before : (g : Ground) (c : ℕ) → LawfulBefore g c → Takes g (take_of g.machine c)
takes_before g c (inl (digit, takes)) = digit_takes g c g.machine.mode (digit_key_of c digit) takes
takes_before g c (inr (inl (is, takes))) = rw is (slash_takes g g.machine.mode takes)
takes_before g c (inr (inr (inl (is, takes)))) = rw is (return_takes g g.machine.mode takes)
takes_before g c (inr (inr (inr (is, takes)))) = rw is (resync_takes g g.machine.mode takes)

takes_by : (going : Bool) (g : Ground) (c : ℕ) → g.going ≡ going → unwrap_or g.plan.start 0 % 2 ≡ 0 → LawfulKey going g c → Takes g (take_of g.machine c)
takes_by true g c is even h = rw h.0 (go_takes g g.machine.mode even is h.1)
takes_by false g c is even h = takes_before g c h

takes_or : (careful : Bool) (g : Ground) (c : ℕ) → RunsWith g.going g.machine.mode → RunsAt (unwrap_or g.plan.start 0) g.machine.mode → unwrap_or g.plan.start 0 % 2 ≡ 0 → LawfulOr careful g c → Takes g (take_of g.machine c)
takes_or false g c runs at even h = takes_by g.going g c refl even h
takes_or true g c runs at even (inl h) = takes_by g.going g c refl even h
takes_or true g c runs at even (inr h) = harmless_takes g c runs at h

pub takes_lawful : (g : Ground) (c : ℕ) → RunsWith g.going g.machine.mode → RunsAt (unwrap_or g.plan.start 0) g.machine.mode → unwrap_or g.plan.start 0 % 2 ≡ 0 → LawfulOr g.careful g c → Takes g (take_of g.machine c)
takes_lawful g c runs at even h = takes_or g.careful g c runs at even h
