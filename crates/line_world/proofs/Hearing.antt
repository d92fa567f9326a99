-- Hear keeps the invariant: what each phase makes of the next character.
use Rattle.std.proofs.Common.{◌≡◌, ◌≢◌, ℕ, zero, suc, ◌+◌, ◌-◌, ◌*◌, ◌%◌, ◌<◌, ◌≤◌, ◌⊎◌, Bool, true, false, eqb, ltb, not, ◌&&◌, List, [], ◌∷◌, length, inl, inr, refl, arith, ap, sym, subst, ◌∙◌}
use Rattle.std.specs.Prelude.{if◌then◌else◌, ◌||◌}
use Rattle.std.proofs.lemmas.Bool.Decides.{nat_tests}
use Rattle.octal.specs.Octal.{is_digit, digit_of, head}
use Rattle.tape_image.specs.Memory.{top_of}
use Rattle.tape_image.specs.Word.{merged}
use Rattle.odt_machine.specs.declared.mode.Mode.{Mode}
use Rattle.odt_machine.specs.declared.mode.Mode.TheVariants.{Prompt, Opened}
use Rattle.odt_machine.specs.Machine.{Machine, is_word}
use Rattle.host_core.specs.declared.phase.Try.{Try}
use Rattle.host_core.specs.declared.phase.Try.TheVariants.{Only, First, Second}
use Rattle.host_core.specs.declared.phase.Visit.{Visit}
use Rattle.host_core.specs.declared.phase.Visit.TheVariants.{Look, Again, Check}
use Rattle.host_core.specs.declared.phase.Reason.{Reason}
use Rattle.host_core.specs.declared.phase.Reason.TheVariants.{Store, Reopen, Missing, Close}
use Rattle.host_core.specs.declared.phase.Phase.{Phase}
use Rattle.host_core.specs.declared.phase.Phase.TheVariants.{Settle, Sync, Address, Slash, Before, Value, Deposit, Return, Start, Go, Ended}
use Rattle.host_core.specs.declared.turn.Turn.{Turn}
use Rattle.host_core.specs.declared.turn.Turn.TheVariants.{Key, Mark}
use Rattle.host_core.specs.Core.{Core}
use Rattle.host_core.specs.Host.{PhaseFits, IsPlace, basis_of}
use Rattle.host_core.specs.Console.{resynchronise_of}
use Rattle.host_core.specs.Answers.{first_digit}
use Rattle.host_core.specs.declared.answers.Echo.{Echo}
use Rattle.host_core.specs.declared.answers.Reading.TheVariants.{Number as NumberRead, NoReading}
use Rattle.host_core.specs.PhaseTable.{hears, synced, sync_hears, echoed, address_hears, slash_hears, absent, reads, read, looked, looked_again, differs, mends, before_hears, value_hears, deposit_hears, returned, returns, return_hears, start_hears, go_hears}
use Rattle.line_world.specs.Scene.{Toll}
use Rattle.line_world.specs.Site.{Site, site, held_number, wanted, Lies, IsThere, number_mode, typing_mode, opened_mode, prompt_from, last_digits, reading}
use Rattle.line_world.specs.Pending.{Live, Fits as MeetsKey, IsRemnant, IsOpened, Turned, Remembered, Stood, StoodWhere, Known, Facts, after_of, rest_of}
use Rattle.line_world.specs.Struck.{Attempt}
use Rattle.line_world.proofs.Parts.{Follows, follows_next, follows_skip, follows_stay, follows_at, Misses, misses, IsAbsent, part_absent, part_past, part_one, part_next, differ}
use Rattle.line_world.proofs.Digits.{below_six, head_step, last_step, not_first}
use Rattle.line_world.proofs.Rows.{IsSite}
use Rattle.line_world.proofs.Frame.{scene, TurnFits, attempt_of, key_sent}
use Rattle.line_world.proofs.Ways.{equal}
use Rattle.line_world.proofs.Losses.{rest_made, stood_shorter}

-- what is known when a character is heard in a phase that waits for an answer
record Hears (new : Mode) (rest : List ℕ) (mode : Mode) (c : ℕ) (u : List ℕ) (spent lost : ℕ) : Type 0 where
  pub after : mode ≡ new
  pub part : IsRemnant (c ∷ u) rest
  pub paid : (c ∷ u ≡ rest) ⊎ (spent < lost)

hears_in : (old : Bool) (phase : Phase) (t : Site) (mode : Mode) (c : ℕ) (u : List ℕ) (spent lost : ℕ) → Live old phase t mode [] (c ∷ u) spent lost → Hears (after_of phase t) (rest_of phase t) mode c u spent lost
hears_in old phase t mode c u spent lost h = record { after = h.rest.0; part = h.rest.1; paid = h.paid }

-- the next phase, nothing sent
step_on : (old : Bool) (next : Phase) (t : Site) (rest : List ℕ) (mode : Mode) (c : ℕ) (u : List ℕ) (spent lost : ℕ) → Hears (after_of next t) rest mode c u spent lost → Follows c rest (rest_of next t) → Facts old next t u → Live old next t mode [] u spent lost
step_on old next t rest mode c u spent lost h follows facts = record {
  key = tt;
  rest = rest_made (after_of next t) (rest_of next t) mode u h.after (follows.part u h.part);
  paid = elim h.paid [ inl whole ↦ inl (follows.whole u whole) | inr paid ↦ inr paid ];
  facts = facts;
}

-- not the next character: a loss was there
missed : (new : Mode) (rest : List ℕ) (mode : Mode) (c : ℕ) (u : List ℕ) (spent lost : ℕ) → Hears new rest mode c u spent lost → Misses c rest → spent < lost
missed new rest mode c u spent lost h other = elim h.paid [ inl whole ↦ absurd (other u whole) | inr paid ↦ paid ]

-- each test of an answer has two outcomes, whatever the table makes of them
fits_by : {A : Type 0} (turn : A → Turn) (m : Machine) (core : Core) (u : List ℕ) (lost : Toll) (test : Bool) (x y : A) → (test ≡ true → TurnFits m core u lost (turn x)) → (test ≡ false → TurnFits m core u lost (turn y)) →
    TurnFits m core u lost (turn (if test then x else y))
fits_by turn m core u lost true x y f g = f refl
fits_by turn m core u lost false x y f g = g refl

fits_if : (m : Machine) (core : Core) (u : List ℕ) (lost : Toll) (test : Bool) (x y : Turn) → (test ≡ true → TurnFits m core u lost x) → (test ≡ false → TurnFits m core u lost y) → TurnFits m core u lost (if test then x else y)
fits_if m core u lost true x y f g = f refl
fits_if m core u lost false x y f g = g refl

-- ---- the prompt

cr_first : (two : Bool) → Follows 13 (prompt_from two 0) (prompt_from two 1)
cr_first true = follows_next 13 13 _
cr_first false = follows_next 13 13 _

cr_second : (two : Bool) → Follows 13 (prompt_from two 1) (prompt_from two 2)
cr_second true = follows_next 13 13 _
cr_second false = follows_stay 13 10 _ (differ 13 10 refl)

lf_first : (two : Bool) → Follows 10 (prompt_from two 1) (prompt_from two 3)
lf_first true = follows_skip 10 13 _ _ (differ 10 13 refl) (follows_next 10 10 _)
lf_first false = follows_next 10 10 _

miss_first : (two : Bool) (c : ℕ) → c ≢ 13 → Misses c (prompt_from two 0)
miss_first true c other = misses c 13 _ other
miss_first false c other = misses c 13 _ other

miss_second : (two : Bool) (c : ℕ) → c ≢ 13 → c ≢ 10 → Misses c (prompt_from two 1)
miss_second true c other lf = misses c 13 _ other
miss_second false c other lf = misses c 10 _ lf

-- ---- the answer to the key that resynchronises

no_question : (careful : Bool) → resynchronise_of careful ≢ 63
no_question true e = omega arith
no_question false e = omega arith

echo_key : (z : ℕ) (echo : Bool) (more : List ℕ) → z ≢ 63 → Follows z (if echo then z ∷ 63 ∷ more else 63 ∷ more) (63 ∷ more)
echo_key z true more other = follows_next z z _
echo_key z false more other = follows_stay z 63 _ other

echo_question : (z : ℕ) (echo : Bool) (more : List ℕ) → z ≢ 63 → Follows 63 (if echo then z ∷ 63 ∷ more else 63 ∷ more) more
echo_question z true more other = follows_skip 63 z _ _ (λ e. other (sym e)) (follows_next 63 63 _)
echo_question z false more other = follows_next 63 63 _

miss_echo : (z : ℕ) (echo : Bool) (c : ℕ) (more : List ℕ) → c ≢ z → c ≢ 63 → Misses c (if echo then z ∷ 63 ∷ more else 63 ∷ more)
miss_echo z true c more other q = misses c z _ other
miss_echo z false c more other q = misses c 63 _ q

-- ---- the reading

absent_refused : (two : Bool) (c : ℕ) → c ≢ 63 → c ≢ 13 → c ≢ 10 → c ≢ 64 → IsAbsent c (63 ∷ prompt_from two 0)
absent_refused true c q cr lf at = (q, (cr, (cr, (lf, (at, tt)))))
absent_refused false c q cr lf at = (q, (cr, (lf, (at, tt))))

absent_digits : (w n : ℕ) → IsAbsent 63 (last_digits w n)
absent_digits w zero = (differ 63 32 refl, tt)
absent_digits w (suc n) = (other (head w (6 - n)), absent_digits w n)
  where
    other : (h : ℕ) → 63 ≢ 48 + h % 8
    other h e = omega arith

absent_reading : (space : Bool) (w : ℕ) → IsAbsent 63 (if space then 32 ∷ last_digits w 6 else last_digits w 6)
absent_reading true w = (differ 63 32 refl, absent_digits w 6)
absent_reading false w = absent_digits w 6

-- a first digit is 0 or 1
early : (c : ℕ) → (eqb c 48 || eqb c 49) ≡ true → (c ≡ 48) ⊎ (c ≡ 49)
early c e = grind (arith, nat_tests)

early_other : (c d : ℕ) → (eqb c 48 || eqb c 49) ≡ true → d ≢ 48 → d ≢ 49 → c ≢ d
early_other c d e a b same = elim (early c e) [ inl is ↦ a (sym same ∙ is) | inr is ↦ b (sym same ∙ is) ]

first_value : (w c : ℕ) → w < 65536 → c ≡ digit_of w 1 → c - 48 ≡ head w 1
first_value w c small same = omega arith

space_reading : (space : Bool) (w : ℕ) → Follows 32 (if space then 32 ∷ last_digits w 6 else last_digits w 6) (last_digits w 6)
space_reading true w = follows_next 32 32 _
space_reading false w = follows_stay 32 (digit_of w 1) _ (other (head w 1))
  where
    other : (h : ℕ) → 32 ≢ 48 + h % 8
    other h e = omega arith

digit_reading : (space : Bool) (w c : ℕ) → c ≢ 32 → Follows c (if space then 32 ∷ last_digits w 6 else last_digits w 6) (last_digits w 5)
digit_reading true w c other = follows_skip c 32 _ _ other (follows_next c (digit_of w 1) _)
digit_reading false w c other = follows_next c (digit_of w 1) _

part_reading : (space : Bool) (w c : ℕ) (u : List ℕ) → c ≢ 32 → IsRemnant (c ∷ u) (if space then 32 ∷ last_digits w 6 else last_digits w 6) → IsRemnant (c ∷ u) (last_digits w 6)
part_reading true w c u other h = part_past c 32 u (last_digits w 6) other h
part_reading false w c u other h = h

miss_reading : (space : Bool) (w c : ℕ) → c ≢ 32 → c ≢ digit_of w 1 → Misses c (if space then 32 ∷ last_digits w 6 else last_digits w 6)
miss_reading true w c other first = misses c 32 _ other
miss_reading false w c other first = misses c (digit_of w 1) _ first

-- the next digit, where nothing was lost
next_value : (w v c j : ℕ) → w < 65536 → j < 6 → v ≡ head w j → c ≡ digit_of w (j + 1) → 8 * v + (c - 48) ≡ head w (j + 1)
next_value w v c j small less before now =
    let step : 8 * head w j + head w (j + 1) % 8 ≡ head w (j + 1) = head_step w small j less in
    joined v (head w j) c (head w (j + 1)) before now step
  where
    joined : (v h c n : ℕ) → v ≡ h → c ≡ 48 + n % 8 → 8 * h + n % 8 ≡ n → 8 * v + (c - 48) ≡ n
    joined v h c n a b step = omega arith

not_next : (w c k : ℕ) → is_digit c ≡ false → c ≢ digit_of w k
not_next w c k e same = outside c (head w k) e same
  where
    outside : (c h : ℕ) → is_digit c ≡ false → c ≡ 48 + h % 8 → ⊥
    outside c h e same = grind (arith, nat_tests)

opened_is : (mode : Mode) (a : ℕ) → mode ≡ Opened a → IsOpened mode
opened_is mode a e = subst IsOpened (sym e) tt

past_top : (memory : List ℕ) (a b : ℕ) → b % 2 ≡ 0 → a ≡ b → is_word memory b ≡ false → top_of memory ≤ a
past_top memory a b even same e = grind (arith, nat_tests)

-- ---- what is known

-- a phase that waits for an answer
abbrev pub IsAnswered : Phase → Type 0
IsAnswered Settle = ⊥
IsAnswered (Ended end) = ⊥
IsAnswered phase = Unit {0}

turned_only : (old : Bool) → Turned old Only
turned_only true = tt
turned_only false = tt

turned_first : (old : Bool) → Turned old First
turned_first true = tt
turned_first false = tt

remembered : (old : Bool) (r : ℕ) (t : Site) → r ≡ held_number t → Remembered old r t
remembered true r t is = tt
remembered false r t is = is

strays : (old : Bool) (spent lost first v : ℕ) (t : Site) → (old ≡ true → spent < lost) → Remembered old first t → v ≡ held_number t → not (eqb v first) ≡ true → spent < lost
strays true spent lost first v t due known is other = due refl
strays false spent lost first v t due known is other = absurd (apart v first (is ∙ sym known) other)
  where
    apart : (a b : ℕ) → a ≡ b → not (eqb a b) ≡ true → ⊥
    apart a b same other = grind (arith, nat_tests)

-- a check that differs, where nothing was changed in it: the word doesn't stand
never_only : (old : Bool) (x : ℕ) (t : Site) → Known old (Check Only x) t → (IsThere t → ⊥) → ⊥
never_only true x t known apart = apart known.2
never_only false x t known apart = apart known.2

never_last : (old : Bool) (before x : ℕ) (t : Site) → Known old (Check (Second before) x) t → (IsThere t → ⊥) → ⊥
never_last true before x t known apart = apart known.2
never_last false before x t known apart = known.0

turned_by : (old : Bool) (before x : ℕ) (t : Site) → Known old (Check First x) t → (IsThere t → ⊥) → Turned old (Second before)
turned_by true before x t known apart = tt
turned_by false before x t known apart = absurd (apart known.2)

stood_none : (old : Bool) (deposit : Try) (t : Site) → StoodWhere old deposit [] t
stood_none true Only t = tt
stood_none true First t = tt
stood_none true (Second before) t = tt
stood_none false deposit t = tt

stood_there : (old : Bool) (deposit : Try) (c : ℕ) (u : List ℕ) (t : Site) → StoodWhere old deposit (c ∷ u) t → Stood old deposit t
stood_there true Only c u t h = h
stood_there true First c u t h = tt
stood_there true (Second before) c u t h = h
stood_there false deposit c u t h = h

-- ---- phase by phase

module _ (m : Machine) (core : Core) (c : ℕ) (u : List ℕ) (n : ℕ) (hurt : Bool) (due : hurt ≡ true → core.spent < n) where
  abbrev lost : Toll
  lost = record { count = n; hurt = hurt }

  abbrev here : Site
  here = site (scene m core [] (c ∷ u) lost)

  abbrev Holds : Phase → Type 0
  Holds phase = Live hurt phase here m.mode [] (c ∷ u) core.spent n

  abbrev Fits : Turn → Type 0
  Fits turn = TurnFits m core u lost turn

  step_in : (next : Phase) (rest : List ℕ) → Hears (after_of next here) rest m.mode c u core.spent n → Follows c rest (rest_of next here) → Facts hurt next here u → Attempt hurt next here m.mode [] u core.spent n
  step_in next rest x follows facts = attempt_of hurt next here m.mode [] u core.spent n due (step_on hurt next here rest m.mode c u core.spent n x follows facts)

  sync_fits : (k : ℕ) → k < 6 → Holds (Sync k) → Fits (sync_hears core.careful k c)
  sync_fits = below_six (λ k. Holds (Sync k) → Fits (sync_hears core.careful k c))
      (λ h. let x = hears_in hurt (Sync 0) here m.mode c u core.spent n h in
      fits_by synced m core u lost (eqb c (resynchronise_of core.careful)) _ _
      (λ e. step_in (Sync 1) _ x (follows_at c (resynchronise_of core.careful) _ _ (equal c (resynchronise_of core.careful) e) (echo_key (resynchronise_of core.careful) m.style.echo_illegal _ (no_question core.careful))) tt)
      (λ z. fits_by synced m core u lost (eqb c 63) _ _
      (λ e. step_in (Sync 2) _ x (follows_at c 63 _ _ (equal c 63 e) (echo_question (resynchronise_of core.careful) m.style.echo_illegal _ (no_question core.careful))) tt)
      (λ q. missed _ _ m.mode c u core.spent n x (miss_echo (resynchronise_of core.careful) m.style.echo_illegal c _ (differ c (resynchronise_of core.careful) z) (differ c 63 q)))))
      (λ h. let x = hears_in hurt (Sync 1) here m.mode c u core.spent n h in
      fits_by synced m core u lost (eqb c 63) _ _
      (λ e. step_in (Sync 2) _ x (follows_next c 63 _) tt)
      (λ q. missed _ _ m.mode c u core.spent n x (misses c 63 _ (differ c 63 q))))
      (λ h. let x = hears_in hurt (Sync 2) here m.mode c u core.spent n h in
      fits_by synced m core u lost (eqb c 13) _ _
      (λ e. step_in (Sync 3) _ x (follows_at c 13 _ _ (equal c 13 e) (cr_first m.style.two_returns)) tt)
      (λ q. missed _ _ m.mode c u core.spent n x (miss_first m.style.two_returns c (differ c 13 q))))
      (λ h. let x = hears_in hurt (Sync 3) here m.mode c u core.spent n h in
      fits_by synced m core u lost (eqb c 13) _ _
      (λ e. step_in (Sync 4) _ x (follows_at c 13 _ _ (equal c 13 e) (cr_second m.style.two_returns)) tt)
      (λ q. fits_by synced m core u lost (eqb c 10) _ _
      (λ e. step_in (Sync 5) _ x (follows_at c 10 _ _ (equal c 10 e) (lf_first m.style.two_returns)) tt)
      (λ l. missed _ _ m.mode c u core.spent n x (miss_second m.style.two_returns c (differ c 13 q) (differ c 10 l)))))
      (λ h. let x = hears_in hurt (Sync 4) here m.mode c u core.spent n h in
      fits_by synced m core u lost (eqb c 10) _ _
      (λ e. step_in (Sync 5) _ x (follows_next c 10 _) tt)
      (λ q. missed _ _ m.mode c u core.spent n x (misses c 10 _ (differ c 10 q))))
      (λ h. let x = hears_in hurt (Sync 5) here m.mode c u core.spent n h in
      fits_by synced m core u lost (eqb c 64) _ _
      (λ e. ((part_one c 64 u x.part).1, due, x.after))
      (λ q. missed _ _ m.mode c u core.spent n x (misses c 64 _ (differ c 64 q))))

  -- a key goes down after the last character
  key_down : (next : Phase) (key : ℕ) → Facts hurt next here [] → MeetsKey next here m.mode key → Attempt hurt next here m.mode (key ∷ []) [] core.spent n
  key_down next key facts fits = key_sent hurt next here m.mode key core.spent n due fits facts

  same_place : (k : ℕ) → k ≡ k + 1 - 1
  same_place k = omega arith

  last_place : (k : ℕ) → IsPlace k → ltb k 6 ≡ false → k ≡ 6
  last_place k place e = let to = place.to in grind (arith, nat_tests)

  address_fits : (visit : Visit) (k : ℕ) → IsPlace k → Holds (Address visit k) → Fits (address_hears here.word.address visit k c)
  address_fits visit k place h =
      let a = here.word.address in
      let turn : Echo → Turn = λ e. echoed e (Address visit (k + 1)) (Key 47 (Slash visit)) in
      let x = hears_in hurt (Address visit k) here m.mode c u core.spent n h in
      fits_by turn m core u lost (eqb c (digit_of a k)) _ _
      (λ e. fits_by turn m core u lost (ltb k 6) _ _
      (λ less. ((part_one c (digit_of a k) u x.part).1, key_down (Address visit (k + 1)) (digit_of a (k + 1)) h.facts (refl, x.after ∙ ap (number_mode a) (same_place k))))
      (λ last. ((part_one c (digit_of a k) u x.part).1, key_down (Slash visit) 47 h.facts (refl, x.after ∙ ap (number_mode a) (last_place k place last)))))
      (λ other. missed _ _ m.mode c u core.spent n x (misses c (digit_of a k) _ (differ c (digit_of a k) other)))

  slash_fits : (visit : Visit) → Holds (Slash visit) → Fits (slash_hears visit c)
  slash_fits visit h =
      let x = hears_in hurt (Slash visit) here m.mode c u core.spent n h in
      fits_if m core u lost (eqb c 47) _ _
      (λ e. step_in (Before visit) _ x (follows_next c 47 _) h.facts)
      (λ other. missed _ _ m.mode c u core.spent n x (misses c 47 _ (differ c 47 other)))

  deposit_fits : (end : Try) (v k : ℕ) → IsPlace k → Holds (Deposit end v k) → Fits (deposit_hears end v k c)
  deposit_fits end v k place h =
      let a = here.word.address in
      let turn : Echo → Turn = λ e. echoed e (Deposit end v (k + 1)) (Key 13 (Return (Store end v) 0)) in
      let x = hears_in hurt (Deposit end v k) here m.mode c u core.spent n h in
      fits_by turn m core u lost (eqb c (digit_of v k)) _ _
      (λ e. fits_by turn m core u lost (ltb k 6) _ _
      (λ less. ((part_one c (digit_of v k) u x.part).1, key_down (Deposit end v (k + 1)) (digit_of v (k + 1)) h.facts (refl, x.after ∙ ap (typing_mode a v) (same_place k))))
      (λ last. (
        (part_one c (digit_of v k) u x.part).1,
        key_down (Return (Store end v) 0) 13 (h.facts.0, h.facts.2, stood_none hurt end here) (refl, refl, x.after ∙ ap (typing_mode a v) (last_place k place last) ∙ ap (λ y. typing_mode a y 6) h.facts.2),
      )))
      (λ other. missed _ _ m.mode c u core.spent n x (misses c (digit_of v k) _ (differ c (digit_of v k) other)))

  start_fits : (k : ℕ) → IsPlace k → core.verified ≡ length core.plan.words → Holds (Start k) → Fits (start_hears here.start k c)
  start_fits k place all h =
      let s = here.start in
      let turn : Echo → Turn = λ e. echoed e (Start (k + 1)) Mark in
      let x = hears_in hurt (Start k) here m.mode c u core.spent n h in
      fits_by turn m core u lost (eqb c (digit_of s k)) _ _
      (λ e. fits_by turn m core u lost (ltb k 6) _ _
      (λ less. ((part_one c (digit_of s k) u x.part).1, key_down (Start (k + 1)) (digit_of s (k + 1)) tt (refl, x.after ∙ ap (number_mode s) (same_place k))))
      (λ last. ((part_one c (digit_of s k) u x.part).1, all, due, x.after ∙ ap (number_mode s) (last_place k place last))))
      (λ other. missed _ _ m.mode c u core.spent n x (misses c (digit_of s k) _ (differ c (digit_of s k) other)))

  go_fits : Holds Go → Fits (go_hears c)
  go_fits h =
      let x = hears_in hurt Go here m.mode c u core.spent n h in
      fits_if m core u lost (eqb c 71) _ _ (λ e. tt) (λ other. missed _ _ m.mode c u core.spent n x (misses c 71 _ (differ c 71 other)))

  -- what stands stays known on the way
  return_facts : (why : Reason) (k next : ℕ) → Facts hurt (Return why k) here (c ∷ u) → Facts hurt (Return why next) here u
  return_facts (Store end x) k next facts = (facts.0, facts.1, stood_shorter hurt end c u u here facts.2)
  return_facts (Reopen r) k next facts = facts
  return_facts (Missing a) k next facts = facts
  return_facts Close k next facts = tt

  returned_fits : (why : Reason) (k : ℕ) → IsSite here → PhaseFits (Return why k) (basis_of core) → Facts hurt (Return why 3) here (c ∷ u) → u ≡ [] → m.mode ≡ Prompt → Fits (returned why)
  returned_fits (Store end x) k numbers fits facts none prompt = (none, (facts.0, facts.1, stood_there hurt end c u here facts.2), due, prompt)
  returned_fits (Reopen r) k numbers fits facts none prompt = (none, facts, due, prompt)
  returned_fits (Missing a) k numbers fits facts none prompt = past_top m.memory a here.word.address numbers.even fits.0.1 facts
  returned_fits Close k numbers fits facts none prompt = (none, due, prompt)

  return_fits : (why : Reason) (i : ℕ) → IsSite here → PhaseFits (Return why i) (basis_of core) → (k : ℕ) → k < 4 → Holds (Return why k) → Fits (return_hears why k c)
  return_fits why i numbers fits = below_four (λ k. Holds (Return why k) → Fits (return_hears why k c))
      (λ h. let x = hears_in hurt (Return why 0) here m.mode c u core.spent n h in
      fits_by (returns why) m core u lost (eqb c 13) _ _
      (λ e. step_in (Return why 1) _ x (follows_at c 13 _ _ (equal c 13 e) (cr_first m.style.two_returns)) (return_facts why 0 1 h.facts))
      (λ q. missed _ _ m.mode c u core.spent n x (miss_first m.style.two_returns c (differ c 13 q))))
      (λ h. let x = hears_in hurt (Return why 1) here m.mode c u core.spent n h in
      fits_by (returns why) m core u lost (eqb c 13) _ _
      (λ e. step_in (Return why 2) _ x (follows_at c 13 _ _ (equal c 13 e) (cr_second m.style.two_returns)) (return_facts why 1 2 h.facts))
      (λ q. fits_by (returns why) m core u lost (eqb c 10) _ _
      (λ e. step_in (Return why 3) _ x (follows_at c 10 _ _ (equal c 10 e) (lf_first m.style.two_returns)) (return_facts why 1 3 h.facts))
      (λ l. missed _ _ m.mode c u core.spent n x (miss_second m.style.two_returns c (differ c 13 q) (differ c 10 l)))))
      (λ h. let x = hears_in hurt (Return why 2) here m.mode c u core.spent n h in
      fits_by (returns why) m core u lost (eqb c 10) _ _
      (λ e. step_in (Return why 3) _ x (follows_next c 10 _) (return_facts why 2 3 h.facts))
      (λ q. missed _ _ m.mode c u core.spent n x (misses c 10 _ (differ c 10 q))))
      (λ h. let x = hears_in hurt (Return why 3) here m.mode c u core.spent n h in
      fits_by (returns why) m core u lost (eqb c 64) _ _
      (λ e. returned_fits why i numbers fits h.facts (part_one c 64 u x.part).1 x.after)
      (λ q. missed _ _ m.mode c u core.spent n x (misses c 64 _ (differ c 64 q))))
    where
      below_four : (P : ℕ → Type 0) → P 0 → P 1 → P 2 → P 3 → (k : ℕ) → k < 4 → P k
      below_four P a b d e zero h = a
      below_four P a b d e (suc zero) h = b
      below_four P a b d e (suc (suc zero)) h = d
      below_four P a b d e (suc (suc (suc zero))) h = e
      below_four P a b d e (suc (suc (suc (suc k)))) h = absurd (omega arith)

  -- the first digit of a reading
  first_fits : (visit : Visit) (rest : List ℕ) → Hears (opened_mode here) rest m.mode c u core.spent n → Known hurt visit here → Lies here → held_number here < 65536 →
      (c ≢ 32 → Follows c rest (last_digits (held_number here) 5)) → (c ≢ 32 → IsRemnant (c ∷ u) rest → IsRemnant (c ∷ u) (last_digits (held_number here) 6)) → (c ≢ digit_of (held_number here) 1 → Misses c rest) →
      Fits (reads core.careful here.word visit (first_digit c))
  first_fits visit rest x checked lies wide follows part other =
      fits_by (reads core.careful here.word visit) m core u lost (eqb c 48 || eqb c 49) _ _
      (λ e.
      let no_space = early_other c 32 e (differ 32 48 refl) (differ 32 49 refl) in
      step_in (Value visit (c - 48) 1) rest x (follows no_space)
      (checked, lies, λ whole. first_value (held_number here) c wide (part_next c (digit_of (held_number here) 1) u (subst (λ y. IsRemnant (c ∷ u) (digit_of (held_number here) 1 ∷ y)) (sym whole) (part no_space x.part)))))
      (λ e. missed _ rest m.mode c u core.spent n x (other (not_first (held_number here) c wide e)))

  before_lies : (visit : Visit) → Lies here → held_number here < 65536 → Holds (Before visit) → Fits (before_hears core.careful here.word visit c)
  before_lies visit lies wide h =
      let w = held_number here in
      let space = m.style.space_before in
      let is : reading here ≡ (if space then 32 ∷ last_digits w 6 else last_digits w 6) = ap (λ b. if b then (if space then 32 ∷ last_digits w 6 else last_digits w 6) else 63 ∷ prompt_from m.style.two_returns 0) lies in
      let x : Hears (opened_mode here) (if space then 32 ∷ last_digits w 6 else last_digits w 6) m.mode c u core.spent n =
      subst (λ r. Hears (opened_mode here) r m.mode c u core.spent n) is (hears_in hurt (Before visit) here m.mode c u core.spent n h) in
      fits_by (reads core.careful here.word visit) m core u lost (eqb c 32) _ _
      (λ e. step_in (Value visit 0 0) _ x (follows_at c 32 _ _ (equal c 32 e) (space_reading space w)) (h.facts, lies, λ whole. refl))
      (λ no_space. fits_by (reads core.careful here.word visit) m core u lost (eqb c 63) _ _
      (λ e. absurd (part_absent 63 u _ (absent_reading space w) (subst (λ d. IsRemnant (d ∷ u) (if space then 32 ∷ last_digits w 6 else last_digits w 6)) (equal c 63 e) x.part)))
      (λ q. first_fits visit _ x h.facts lies wide (λ other. digit_reading space w c other) (λ other part. part_reading space w c u other part) (λ other. miss_reading space w c (differ c 32 no_space) other)))

  before_past : (visit : Visit) → is_word m.memory here.word.address ≡ false → here.word.address % 2 ≡ 0 → Holds (Before visit) → Fits (before_hears core.careful here.word visit c)
  before_past visit past even h =
      let two = m.style.two_returns in
      let w = held_number here in
      let is : reading here ≡ 63 ∷ prompt_from two 0 = ap (λ b. if b then (if m.style.space_before then 32 ∷ last_digits w 6 else last_digits w 6) else 63 ∷ prompt_from two 0) past in
      let x : Hears (opened_mode here) (63 ∷ prompt_from two 0) m.mode c u core.spent n =
      subst (λ r. Hears (opened_mode here) r m.mode c u core.spent n) is (hears_in hurt (Before visit) here m.mode c u core.spent n h) in
      fits_by (reads core.careful here.word visit) m core u lost (eqb c 32) _ _
      (λ e. absurd (part_absent c u (63 ∷ prompt_from two 0) (absent_refused two c (elsewhere c 32 63 e refl) (elsewhere c 32 13 e refl) (elsewhere c 32 10 e refl) (elsewhere c 32 64 e refl)) x.part))
      (λ no_space. fits_by (reads core.careful here.word visit) m core u lost (eqb c 63) _ _
      (λ e. absent_fits core.careful e)
      (λ q. fits_by (reads core.careful here.word visit) m core u lost (eqb c 48 || eqb c 49) _ _
      (λ e. absurd (part_absent c u (63 ∷ prompt_from two 0) (absent_refused two c (differ c 63 q) (early_other c 13 e (differ 13 48 refl) (differ 13 49 refl)) (early_other c 10 e (differ 10 48 refl) (differ 10 49 refl)) (early_other c 64 e (differ 64 48 refl) (differ 64 49 refl))) x.part))
      (λ e. missed _ _ m.mode c u core.spent n x (misses c 63 _ (differ c 63 q)))))
    where
      -- it is the `?` of the refusal: a plain host believes it, a careful one awaits the rest
      absent_fits : (careful : Bool) → eqb c 63 ≡ true → Fits (absent careful here.word.address)
      absent_fits true e =
          let two = m.style.two_returns in
          let is : reading here ≡ 63 ∷ prompt_from two 0 = ap (λ b. if b then (if m.style.space_before then 32 ∷ last_digits (held_number here) 6 else last_digits (held_number here) 6) else 63 ∷ prompt_from two 0) past in
          let x : Hears Prompt (63 ∷ prompt_from two 0) m.mode c u core.spent n =
          subst (λ mode. Hears mode (63 ∷ prompt_from two 0) m.mode c u core.spent n) (ap (λ b. if b then Opened here.word.address else Prompt) past)
          (subst (λ r. Hears (opened_mode here) r m.mode c u core.spent n) is (hears_in hurt (Before visit) here m.mode c u core.spent n h)) in
          step_in (Return (Missing here.word.address) 0) _ x (follows_at c 63 _ _ (equal c 63 e) (follows_next 63 63 _)) past
      absent_fits false e = past_top m.memory here.word.address here.word.address even refl past

      elsewhere : (c d e : ℕ) → eqb c d ≡ true → eqb d e ≡ false → c ≢ e
      elsewhere c d e same other is = differ d e other (sym (equal c d same) ∙ is)

  before_fits : (visit : Visit) → here.word.address % 2 ≡ 0 → held_number here < 65536 → Holds (Before visit) → Fits (before_hears core.careful here.word visit c)
  before_fits visit even wide h =
      elim (is_word m.memory here.word.address) as (λ b. is_word m.memory here.word.address ≡ b → Fits (before_hears core.careful here.word visit c)) [
        | true ↦ λ lies. before_lies visit lies wide h
        | false ↦ λ past. before_past visit past even h
      ] refl

  -- the value that is wanted goes down
  mends_fits : (deposit : Try) (x : ℕ) → Turned hurt deposit → Lies here → x ≡ wanted here → u ≡ [] → m.mode ≡ Opened here.word.address → Fits (mends deposit x)
  mends_fits deposit x turned lies is none opened = (none, key_down (Deposit deposit x 1) (digit_of x 1) (turned, lies, is) (refl, opened))

  -- the word stands
  stands_fits : (v : ℕ) → Lies here → v ≡ held_number here → u ≡ [] → m.mode ≡ Opened here.word.address → eqb (merged here.word v) v ≡ true → (u ≡ []) × IsThere (site (scene m core [] [] lost)) × IsOpened m.mode
  stands_fits v lies is none opened same = (none, (lies, ap (merged here.word) (sym is) ∙ equal (merged here.word v) v same ∙ is), opened_is m.mode here.word.address opened)

  look_exact : (careful : Bool) (v : ℕ) → Lies here → v ≡ held_number here → u ≡ [] → m.mode ≡ Opened here.word.address → Fits (looked careful here.word v)
  look_exact true v lies is none opened =
      let x = merged here.word v in
      fits_if m core u lost (eqb here.word.mask 65535 && not (eqb x v)) _ _
      (λ e. mends_fits First x (turned_first hurt) lies (ap (merged here.word) is) none opened)
      (λ e. (none, key_down (Return (Reopen v) 0) 13 (remembered hurt v here is) (refl, refl, opened_is m.mode here.word.address opened)))
  look_exact false v lies is none opened =
      let x = merged here.word v in
      fits_if m core u lost (eqb x v) _ _
      (λ same. stands_fits v lies is none opened same)
      (λ e. mends_fits Only x (turned_only hurt) lies (ap (merged here.word) is) none opened)

  again_exact : (first v : ℕ) → Known hurt (Again first) here → Lies here → v ≡ held_number here → u ≡ [] → m.mode ≡ Opened here.word.address → Fits (looked_again here.word first v)
  again_exact first v known lies is none opened =
      let x = merged here.word v in
      fits_if m core u lost (not (eqb v first)) _ _
      (λ e. strays hurt core.spent n first v here due known is e)
      (λ _. fits_if m core u lost (eqb x v) _ _
      (λ same. stands_fits v lies is none opened same)
      (λ other. mends_fits First x (turned_first hurt) lies (ap (merged here.word) is) none opened))

  differs_exact : (deposit : Try) (x v : ℕ) → Known hurt (Check deposit x) here → Lies here → u ≡ [] → m.mode ≡ Opened here.word.address → (IsThere here → ⊥) → Fits (differs here.word deposit x v)
  differs_exact Only x v known lies none opened apart = absurd (never_only hurt x here known apart)
  differs_exact First x v known lies none opened apart = mends_fits (Second v) x (turned_by hurt v x here known apart) lies known.1 none opened
  differs_exact (Second before) x v known lies none opened apart = absurd (never_last hurt before x here known apart)

  -- a whole reading, which is what memory holds
  read_exact : (visit : Visit) (v : ℕ) → Known hurt visit here → Lies here → v ≡ held_number here → u ≡ [] → m.mode ≡ Opened here.word.address → Fits (read core.careful here.word visit v)
  read_exact Look v known lies is none opened = look_exact core.careful v lies is none opened
  read_exact (Again first) v known lies is none opened = again_exact first v known lies is none opened
  read_exact (Check deposit x) v known lies is none opened =
      fits_if m core u lost (eqb (merged here.word v) v) _ _
      (λ same. stands_fits v lies is none opened same)
      (λ other.
      let apart : IsThere here → ⊥ = λ there. differ (merged here.word v) v other (ap (merged here.word) is ∙ there.1 ∙ sym is) in
      differs_exact deposit x v known lies none opened apart)

  -- the space after a whole reading
  read_fits : (visit : Visit) (v : ℕ) → Hears (opened_mode here) (32 ∷ []) m.mode c u core.spent n → Known hurt visit here → Lies here → (c ∷ u ≡ 32 ∷ [] → v ≡ held_number here) → Fits (reads core.careful here.word visit (if eqb c 32 then NumberRead v else NoReading))
  read_fits visit v x known lies value =
      fits_by (reads core.careful here.word visit) m core u lost (eqb c 32) _ _
      (λ e.
      let none : u ≡ [] = (part_one c 32 u x.part).1 in
      let is : v ≡ held_number here = value (whole c u (equal c 32 e) none) in
      read_exact visit v known lies is none (x.after ∙ ap (λ b. if b then Opened here.word.address else Prompt) lies))
      (λ other. missed _ _ m.mode c u core.spent n x (misses c 32 _ (differ c 32 other)))
    where
      whole : (c : ℕ) (u : List ℕ) → c ≡ 32 → u ≡ [] → c ∷ u ≡ 32 ∷ []
      whole c u e none = cc

  value_fits : (visit : Visit) (v j : ℕ) → j ≤ 6 → held_number here < 65536 → Holds (Value visit v j) → Fits (value_hears core.careful here.word visit v j c)
  value_fits visit v j within wide h =
      let w = held_number here in
      let checked = h.facts.0 in
      let lies = h.facts.1 in
      let x : Hears (opened_mode here) (last_digits w (6 - j)) m.mode c u core.spent n = hears_in hurt (Value visit v j) here m.mode c u core.spent n h in
      fits_by (reads core.careful here.word visit) m core u lost (eqb j 0) _ _
      (λ z. first_fits visit (last_digits w 6) (subst (λ k. Hears (opened_mode here) (last_digits w (6 - k)) m.mode c u core.spent n) (equal j 0 z) x) checked lies wide
      (λ other. follows_next c (digit_of w 1) (last_digits w 5)) (λ other part. part) (λ other. misses c (digit_of w 1) _ other))
      (λ later. fits_by (reads core.careful here.word visit) m core u lost (ltb j 6) _ _
      (λ less.
      let below : j < 6 = under j less in
      let y : Hears (opened_mode here) (digit_of w (j + 1) ∷ last_digits w (6 - (j + 1))) m.mode c u core.spent n = subst (λ r. Hears (opened_mode here) r m.mode c u core.spent n) (last_step w j below) x in
      fits_by (reads core.careful here.word visit) m core u lost (is_digit c) _ _
      (λ e. step_in (Value visit (8 * v + (c - 48)) (j + 1)) _ y (follows_next c (digit_of w (j + 1)) _) (
        checked,
        lies,
        λ whole.
            let now : c ≡ digit_of w (j + 1) = part_next c (digit_of w (j + 1)) u (subst (λ r. IsRemnant (c ∷ u) (digit_of w (j + 1) ∷ r)) (sym whole) y.part) in
            next_value w v c j wide below (h.facts.2 (joined c (digit_of w (j + 1)) u (last_digits w (6 - (j + 1))) now whole ∙ sym (last_step w j below))) now,
      ))
      (λ e. missed _ _ m.mode c u core.spent n y (misses c (digit_of w (j + 1)) _ (not_next w c (j + 1) e))))
      (λ last.
      let all : j ≡ 6 = at_end j within last in
      read_fits visit v (subst (λ k. Hears (opened_mode here) (last_digits w (6 - k)) m.mode c u core.spent n) all x) checked lies
      (subst (λ k. c ∷ u ≡ last_digits w (6 - k) → v ≡ head w k) all h.facts.2)))
    where
      under : (j : ℕ) → ltb j 6 ≡ true → j < 6
      under j e = grind (arith, nat_tests)

      at_end : (j : ℕ) → j ≤ 6 → ltb j 6 ≡ false → j ≡ 6
      at_end j within e = grind (arith, nat_tests)

      joined : (c d : ℕ) (u r : List ℕ) → c ≡ d → u ≡ r → c ∷ u ≡ d ∷ r
      joined c d u r e f = cc

  pub hears_fits : (phase : Phase) → IsSite here → PhaseFits phase (basis_of core) → held_number here < 65536 → Live hurt phase here m.mode [] (c ∷ u) core.spent n → IsAnswered phase → Fits (hears core.careful here.word here.start phase c)
  hears_fits Settle numbers fits wide h live = absurd live
  hears_fits (Sync k) numbers fits wide h live = sync_fits k (omega arith) h
  hears_fits (Address visit k) numbers fits wide h live = address_fits visit k fits.1 h
  hears_fits (Slash visit) numbers fits wide h live = slash_fits visit h
  hears_fits (Before visit) numbers fits wide h live = before_fits visit numbers.even wide h
  hears_fits (Value visit v j) numbers fits wide h live = value_fits visit v j fits.1 wide h
  hears_fits (Deposit end v k) numbers fits wide h live = deposit_fits end v k fits.1 h
  hears_fits (Return (Store end x) k) numbers fits wide h live = let to = fits.1 in return_fits (Store end x) k numbers fits k (omega arith) h
  hears_fits (Return (Reopen r) k) numbers fits wide h live = let to = fits.1 in return_fits (Reopen r) k numbers fits k (omega arith) h
  hears_fits (Return (Missing a) k) numbers fits wide h live = let to = fits.1 in return_fits (Missing a) k numbers fits k (omega arith) h
  hears_fits (Return Close k) numbers fits wide h live = return_fits Close k numbers fits k (omega arith) h
  hears_fits (Start k) numbers fits wide h live = start_fits k fits.1 fits.0.all h
  hears_fits Go numbers fits wide h live = go_fits h
  hears_fits (Ended end) numbers fits wide h live = absurd live
