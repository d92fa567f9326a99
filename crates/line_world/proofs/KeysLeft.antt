-- The keys that are still to be typed on a line that loses nothing, phase by phase.
use Rattle.std.proofs.Common.{◌≡◌, ℕ, zero, suc, ◌+◌, ◌-◌, ◌*◌, ◌%◌, ◌<◌, ◌≤◌, ◌⊎◌, Bool, true, false, eqb, not, ◌&&◌, List, [], ◌∷◌, ◌++◌, inl, inr, refl, arith, ap, sym, subst, ◌∙◌}
use Rattle.std.specs.Prelude.{◌==◌, if◌then◌else◌, ◌||◌}
use Rattle.std.proofs.lemmas.Bool.Decides.{nat_tests}
use Rattle.octal.specs.Octal.{is_digit, digit_of, head, octal_text}
use Rattle.tape_image.specs.Word.{WordValue, merged}
use Rattle.host_core.specs.declared.phase.Try.{Try}
use Rattle.host_core.specs.declared.phase.Try.TheVariants.{Only, First}
use Rattle.host_core.specs.declared.phase.Visit.{Visit}
use Rattle.host_core.specs.declared.phase.Visit.TheVariants.{Look, Again, Check}
use Rattle.host_core.specs.declared.phase.Reason.{Reason}
use Rattle.host_core.specs.declared.phase.Reason.TheVariants.{Store, Reopen, Missing, Close}
use Rattle.host_core.specs.declared.phase.Phase.{Phase}
use Rattle.host_core.specs.declared.phase.Phase.TheVariants.{Settle, Sync, Address, Slash, Before, Value, Deposit, Return, Start, Go, Ended}
use Rattle.host_core.specs.declared.turn.Turn.{Turn}
use Rattle.host_core.specs.declared.turn.Turn.TheVariants.{Listen, Key, Verified, Revisit, Next, Mark, Stop, Stray, Timeout}
use Rattle.host_core.specs.Host.{IsPlace, PhaseFits, HasWord, Basis}
use Rattle.host_core.specs.Answers.{first_digit}
use Rattle.host_core.specs.declared.answers.Reading.TheVariants.{Digits, NoReading}
use Rattle.host_core.specs.PhaseTable.{hears, sync_hears, address_hears, slash_hears, reads, before_hears, mends, looked, looked_again, read, value_hears, deposit_hears, return_hears, start_hears, go_hears}
use Rattle.line_world.specs.Site.{Site, held_number, Lies, prompt_from, last_digits, reading, refusal_from}
use Rattle.line_world.specs.Pending.{Known, Facts, rest_of}
use Rattle.line_world.specs.CleanText.{looks_first}
use Rattle.host_core.specs.Console.{resynchronise_of}
use Rattle.line_world.proofs.Parts.{differ}
use Rattle.line_world.proofs.Digits.{below_six, at_place, digit_is, not_first}

-- the digits of a number behind the k-th, and what follows them
abbrev digits_behind : ℕ → ℕ → List ℕ → List ℕ
digits_behind n k more =
    if k == 1 then digit_of n 2 ∷ digit_of n 3 ∷ digit_of n 4 ∷ digit_of n 5 ∷ digit_of n 6 ∷ more
    else if k == 2 then digit_of n 3 ∷ digit_of n 4 ∷ digit_of n 5 ∷ digit_of n 6 ∷ more
    else if k == 3 then digit_of n 4 ∷ digit_of n 5 ∷ digit_of n 6 ∷ more
    else if k == 4 then digit_of n 5 ∷ digit_of n 6 ∷ more
    else if k == 5 then digit_of n 6 ∷ more
    else more

-- the keys of a check: the address, `/` and CR, and what follows them
abbrev pub check_keys : ℕ → List ℕ → List ℕ
check_keys address more = octal_text address ++ 47 ∷ 13 ∷ more

-- the keys behind the `/` of the last look: a word that stands is closed, another is deposited and checked
abbrev pub mending_keys : WordValue → ℕ → List ℕ → List ℕ
mending_keys w old more = if merged w old == old then 13 ∷ more else octal_text (merged w old) ++ 13 ∷ check_keys w.address more

-- the same behind a look before it
abbrev pub again_keys : WordValue → ℕ → List ℕ → List ℕ
again_keys w old more = octal_text w.address ++ 47 ∷ mending_keys w old more

-- the keys of a visit behind its `/`
abbrev pub visit_keys : Bool → Visit → WordValue → ℕ → List ℕ → List ℕ
visit_keys careful Look w old more = if looks_first careful w old then 13 ∷ again_keys w old more else mending_keys w old more
visit_keys careful (Again first) w old more = mending_keys w old more
visit_keys careful (Check deposit x) w old more = 13 ∷ more

-- the keys that are left in a phase: `here` from the word under way on, `later` from the next word on
abbrev pub left : Phase → Site → (here later : List ℕ) → List ℕ
left Settle t here later = resynchronise_of t.careful ∷ here
left (Sync k) t here later = here
left (Address visit k) t here later = digits_behind t.word.address k (47 ∷ visit_keys t.careful visit t.word (held_number t) later)
left (Slash visit) t here later = visit_keys t.careful visit t.word (held_number t) later
left (Before visit) t here later = visit_keys t.careful visit t.word (held_number t) later
left (Value visit v j) t here later = visit_keys t.careful visit t.word (held_number t) later
left (Deposit deposit x k) t here later = digits_behind x k (13 ∷ check_keys t.word.address later)
left (Return (Store deposit x) k) t here later = check_keys t.word.address later
left (Return (Reopen first) k) t here later = again_keys t.word (held_number t) later
left (Return (Missing a) k) t here later = []
left (Return Close k) t here later = here
left (Start k) t here later = digits_behind t.start k (71 ∷ [])
left Go t here later = []
left (Ended end) t here later = []

-- a phase in which the host waits for an answer
abbrev pub IsBusy : Phase → Type 0
IsBusy Settle = ⊥
IsBusy (Ended end) = ⊥
IsBusy phase = Unit {0}

-- what a turn of the host sends, and then the keys that are left, are these keys; no mishap is met
abbrev pub Leads : Site → (here later : List ℕ) → Turn → List ℕ → Type 0
Leads t here later (Listen phase) keys = left phase t here later ≡ keys
Leads t here later (Key key phase) keys = (key ∷ left phase t here later ≡ keys) × IsBusy phase
Leads t here later Verified keys = 13 ∷ later ≡ keys
Leads t here later (Revisit visit) keys = octal_text t.word.address ++ 47 ∷ visit_keys t.careful visit t.word (held_number t) later ≡ keys
Leads t here later Next keys = here ≡ keys
Leads t here later Mark keys = 71 ∷ [] ≡ keys
Leads t here later (Stop end) keys = [] ≡ keys
Leads t here later Stray keys = ⊥
Leads t here later Timeout keys = ⊥

leads_if : (t : Site) (here later : List ℕ) (test : Bool) (x y : Turn) (keys : List ℕ) → (test ≡ true → Leads t here later x keys) → (test ≡ false → Leads t here later y keys) → Leads t here later (if test then x else y) keys
leads_if t here later true x y keys f g = f refl
leads_if t here later false x y keys f g = g refl

-- so has each test of an answer, whatever the table makes of it
leads_by : {A : Type 0} (turn : A → Turn) (t : Site) (here later : List ℕ) (test : Bool) (x y : A) (keys : List ℕ) → (test ≡ true → Leads t here later (turn x) keys) → (test ≡ false → Leads t here later (turn y) keys) →
    Leads t here later (turn (if test then x else y)) keys
leads_by turn t here later true x y keys f g = f refl
leads_by turn t here later false x y keys f g = g refl

same_self : (n : ℕ) → eqb n n ≡ true
same_self n = grind (arith, nat_tests)

first_of : {c d : ℕ} {u more : List ℕ} → c ∷ u ≡ d ∷ more → c ≡ d
first_of e = cc

module _ (t : Site) (here later : List ℕ) (c : ℕ) (u : List ℕ) where
  abbrev Goes : Turn → List ℕ → Type 0
  Goes turn keys = Leads t here later turn keys

  -- the character heard is the next of the exact answer
  at_first : (d : ℕ) (more keys : List ℕ) (turn : ℕ → Turn) → c ∷ u ≡ d ∷ more → Goes (turn d) keys → Goes (turn c) keys
  at_first d more keys turn e h = subst (λ x. Goes (turn x) keys) (sym (first_of e)) h

  sync_zero : (careful echo : Bool) (more : List ℕ) → c ∷ u ≡ (if echo then resynchronise_of careful ∷ 63 ∷ more else 63 ∷ more) → Goes (sync_hears careful 0 c) here
  sync_zero true true more e = at_first 85 _ here (λ x. sync_hears true 0 x) e refl
  sync_zero false true more e = at_first 90 _ here (λ x. sync_hears false 0 x) e refl
  sync_zero true false more e = at_first 63 _ here (λ x. sync_hears true 0 x) e refl
  sync_zero false false more e = at_first 63 _ here (λ x. sync_hears false 0 x) e refl

  sync_three : (two : Bool) → c ∷ u ≡ prompt_from two 1 → Goes (sync_hears t.careful 3 c) here
  sync_three true e = at_first 13 _ here (λ x. sync_hears t.careful 3 x) e refl
  sync_three false e = at_first 10 _ here (λ x. sync_hears t.careful 3 x) e refl

  sync_two : (two : Bool) → c ∷ u ≡ prompt_from two 0 → Goes (sync_hears t.careful 2 c) here
  sync_two true e = at_first 13 _ here (λ x. sync_hears t.careful 2 x) e refl
  sync_two false e = at_first 13 _ here (λ x. sync_hears t.careful 2 x) e refl

  sync_leads : (k : ℕ) → k < 6 → c ∷ u ≡ refusal_from t.careful t.style k → Goes (sync_hears t.careful k c) here
  sync_leads = below_six (λ k. c ∷ u ≡ refusal_from t.careful t.style k → Goes (sync_hears t.careful k c) here)
      (λ e. sync_zero t.careful t.style.echo_illegal _ e)
      (λ e. at_first 63 _ here (λ x. sync_hears t.careful 1 x) e refl)
      (λ e. sync_two t.style.two_returns e)
      (λ e. sync_three t.style.two_returns e)
      (λ e. at_first 10 _ here (λ x. sync_hears t.careful 4 x) e refl)
      (λ e. at_first 64 _ here (λ x. sync_hears t.careful 5 x) e refl)

  address_leads : (visit : Visit) (k : ℕ) → IsPlace k → c ∷ u ≡ digit_of t.word.address k ∷ [] → Goes (address_hears t.word.address visit k c) (left (Address visit k) t here later)
  address_leads visit k place e =
      let a = t.word.address in
      at_first (digit_of a k) [] (left (Address visit k) t here later) (λ x. address_hears a visit k x) e
      (at_place (λ j. Goes (address_hears a visit j (digit_of a j)) (left (Address visit j) t here later))
      (rw (same_self (digit_of a 1)) (refl, tt)) (rw (same_self (digit_of a 2)) (refl, tt)) (rw (same_self (digit_of a 3)) (refl, tt))
      (rw (same_self (digit_of a 4)) (refl, tt)) (rw (same_self (digit_of a 5)) (refl, tt)) (rw (same_self (digit_of a 6)) (refl, tt)) k place)

  deposit_leads : (deposit : Try) (v k : ℕ) → IsPlace k → c ∷ u ≡ digit_of v k ∷ [] → Goes (deposit_hears deposit v k c) (left (Deposit deposit v k) t here later)
  deposit_leads deposit v k place e =
      at_first (digit_of v k) [] (left (Deposit deposit v k) t here later) (λ x. deposit_hears deposit v k x) e
      (at_place (λ j. Goes (deposit_hears deposit v j (digit_of v j)) (left (Deposit deposit v j) t here later))
      (rw (same_self (digit_of v 1)) (refl, tt)) (rw (same_self (digit_of v 2)) (refl, tt)) (rw (same_self (digit_of v 3)) (refl, tt))
      (rw (same_self (digit_of v 4)) (refl, tt)) (rw (same_self (digit_of v 5)) (refl, tt)) (rw (same_self (digit_of v 6)) (refl, tt)) k place)

  start_leads : (k : ℕ) → IsPlace k → c ∷ u ≡ digit_of t.start k ∷ [] → Goes (start_hears t.start k c) (left (Start k) t here later)
  start_leads k place e =
      let s = t.start in
      at_first (digit_of s k) [] (left (Start k) t here later) (λ x. start_hears s k x) e
      (at_place (λ j. Goes (start_hears s j (digit_of s j)) (left (Start j) t here later))
      (rw (same_self (digit_of s 1)) (refl, tt)) (rw (same_self (digit_of s 2)) (refl, tt)) (rw (same_self (digit_of s 3)) (refl, tt))
      (rw (same_self (digit_of s 4)) (refl, tt)) (rw (same_self (digit_of s 5)) (refl, tt)) (rw (same_self (digit_of s 6)) refl) k place)

  return_two : (why : Reason) (two : Bool) (keys : List ℕ) → ((k : ℕ) → Goes (Listen (Return why k)) keys) → c ∷ u ≡ prompt_from two 0 → Goes (return_hears why 0 c) keys
  return_two why true keys stay e = at_first 13 _ keys (λ x. return_hears why 0 x) e (stay 1)
  return_two why false keys stay e = at_first 13 _ keys (λ x. return_hears why 0 x) e (stay 1)

  return_one : (why : Reason) (two : Bool) (keys : List ℕ) → ((k : ℕ) → Goes (Listen (Return why k)) keys) → c ∷ u ≡ prompt_from two 1 → Goes (return_hears why 1 c) keys
  return_one why true keys stay e = at_first 13 _ keys (λ x. return_hears why 1 x) e (stay 2)
  return_one why false keys stay e = at_first 10 _ keys (λ x. return_hears why 1 x) e (stay 3)

  return_leads : (why : Reason) (keys : List ℕ) → ((k : ℕ) → Goes (Listen (Return why k)) keys) → Goes (return_hears why 3 64) keys → (k : ℕ) → k < 4 → c ∷ u ≡ prompt_from t.style.two_returns k → Goes (return_hears why k c) keys
  return_leads why keys stay last zero below e = return_two why t.style.two_returns keys stay e
  return_leads why keys stay last (suc zero) below e = return_one why t.style.two_returns keys stay e
  return_leads why keys stay last (suc (suc zero)) below e = at_first 10 _ keys (λ x. return_hears why 2 x) e (stay 3)
  return_leads why keys stay last (suc (suc (suc zero))) below e = at_first 64 _ keys (λ x. return_hears why 3 x) e last
  return_leads why keys stay last (suc (suc (suc (suc k)))) below e = absurd (omega arith)

  slash_leads : (visit : Visit) (more : List ℕ) → c ∷ u ≡ 47 ∷ more → Goes (slash_hears visit c) (visit_keys t.careful visit t.word (held_number t) later)
  slash_leads visit more e = at_first 47 more (visit_keys t.careful visit t.word (held_number t) later) (λ x. slash_hears visit x) e refl

  -- the first digit of a word is 0 or 1
  first_leads : (visit : Visit) (more : List ℕ) → held_number t < 65536 → c ∷ u ≡ digit_of (held_number t) 1 ∷ more → Goes (reads t.careful t.word visit (first_digit c)) (visit_keys t.careful visit t.word (held_number t) later)
  first_leads visit more wide e =
      leads_by (reads t.careful t.word visit) t here later (eqb c 48 || eqb c 49) _ _ _ (λ yes. refl)
      (λ other. absurd (not_first (held_number t) c wide other (first_of e)))

  -- a digit is neither a space nor `?`
  digit_other : (h d c : ℕ) → (d ≡ 32) ⊎ (d ≡ 63) → c ≡ 48 + h % 8 → eqb c d ≡ true → ⊥
  digit_other h d c (inl is) same e = space c (h % 8) (subst (λ x. eqb c x ≡ true) is e) same
    where
      space : (c n : ℕ) → eqb c 32 ≡ true → c ≡ 48 + n → ⊥
      space c n e same = grind (arith, nat_tests)
  digit_other h d c (inr is) same e = question c (h % 8) (omega arith) (subst (λ x. eqb c x ≡ true) is e) same
    where
      question : (c n : ℕ) → n < 8 → eqb c 63 ≡ true → c ≡ 48 + n → ⊥
      question c n small e same = grind (arith, nat_tests)

  before_leads : (visit : Visit) (space : Bool) → held_number t < 65536 → c ∷ u ≡ (if space then 32 ∷ last_digits (held_number t) 6 else last_digits (held_number t) 6) → Goes (before_hears t.careful t.word visit c) (visit_keys t.careful visit t.word (held_number t) later)
  before_leads visit true wide e = at_first 32 _ (visit_keys t.careful visit t.word (held_number t) later) (λ x. before_hears t.careful t.word visit x) e refl
  before_leads visit false wide e =
      leads_by (reads t.careful t.word visit) t here later (eqb c 32) _ _ _ (λ yes. refl)
      (λ other. leads_by (reads t.careful t.word visit) t here later (eqb c 63) _ _ _
      (λ question. absurd (digit_other (head (held_number t) 1) 63 c (inr refl) (first_of e) question))
      (λ no_question. first_leads visit _ wide e))

  -- the value that is wanted goes down
  mends_lead : (deposit : Try) (x : ℕ) → x ≡ merged t.word (held_number t) → Goes (mends deposit x) (octal_text (merged t.word (held_number t)) ++ 13 ∷ check_keys t.word.address later)
  mends_lead deposit x is = subst (λ y. Goes (mends deposit y) (octal_text (merged t.word (held_number t)) ++ 13 ∷ check_keys t.word.address later)) (sym is) (refl, tt)

  -- behind the last look
  mending_leads : (deposit : Try) (test : Bool) → Goes (if test then Verified else mends deposit (merged t.word (held_number t))) (if test then 13 ∷ later else octal_text (merged t.word (held_number t)) ++ 13 ∷ check_keys t.word.address later)
  mending_leads deposit true = refl
  mending_leads deposit false = mends_lead deposit (merged t.word (held_number t)) refl

  -- the first look of a careful host
  careful_leads : (whole stands : Bool) →
      Goes (if whole && not stands then mends First (merged t.word (held_number t)) else Key 13 (Return (Reopen (held_number t)) 0))
      (if true && not (whole && not stands) then 13 ∷ again_keys t.word (held_number t) later else (if stands then 13 ∷ later else octal_text (merged t.word (held_number t)) ++ 13 ∷ check_keys t.word.address later))
  careful_leads true true = (refl, tt)
  careful_leads true false = mends_lead First (merged t.word (held_number t)) refl
  careful_leads false stands = (refl, tt)

  look_leads : (careful : Bool) → Goes (looked careful t.word (held_number t)) (visit_keys careful Look t.word (held_number t) later)
  look_leads true = careful_leads (t.word.mask == 65535) (merged t.word (held_number t) == held_number t)
  look_leads false = mending_leads Only (merged t.word (held_number t) == held_number t)

  again_leads : (first : ℕ) → first ≡ held_number t → Goes (looked_again t.word first (held_number t)) (mending_keys t.word (held_number t) later)
  again_leads first is = same_reading (not (held_number t == first)) (same first is)
    where
      same : (first : ℕ) → first ≡ held_number t → not (eqb (held_number t) first) ≡ false
      same first is = let e : eqb (held_number t) (held_number t) ≡ true = same_self (held_number t) in rw (is, e) refl

      same_reading : (test : Bool) → test ≡ false → Goes (if test then Stray else (if merged t.word (held_number t) == held_number t then Verified else mends First (merged t.word (held_number t)))) (mending_keys t.word (held_number t) later)
      same_reading true e = absurd (cc)
      same_reading false e = mending_leads First (merged t.word (held_number t) == held_number t)

  -- a whole reading
  read_leads : (visit : Visit) (v : ℕ) → Known false visit t → v ≡ held_number t → Goes (read t.careful t.word visit v) (visit_keys t.careful visit t.word (held_number t) later)
  read_leads Look v known is = subst (λ x. Goes (read t.careful t.word Look x) (visit_keys t.careful Look t.word (held_number t) later)) (sym is) (look_leads t.careful)
  read_leads (Again first) v known is = subst (λ x. Goes (read t.careful t.word (Again first) x) (mending_keys t.word (held_number t) later)) (sym is) (again_leads first known)
  read_leads (Check deposit x) v known is =
      leads_if t here later (eqb (merged t.word v) v) _ _ _ (λ yes. refl)
      (λ other. absurd (differ (merged t.word v) v other (ap (merged t.word) is ∙ known.2.1 ∙ sym is)))

  -- a further digit
  digit_leads : (visit : Visit) (v j h : ℕ) (more : List ℕ) → c ∷ u ≡ (48 + h % 8) ∷ more → Goes (reads t.careful t.word visit (if is_digit c then Digits (8 * v + (c - 48)) (j + 1) else NoReading)) (visit_keys t.careful visit t.word (held_number t) later)
  digit_leads visit v j h more e =
      leads_by (reads t.careful t.word visit) t here later (is_digit c) _ _ _ (λ yes. refl)
      (λ other. absurd (not_digit (sym (ap is_digit (first_of e)) ∙ other) (digit_is h)))
    where
      not_digit : {b : Bool} → b ≡ false → b ≡ true → ⊥
      not_digit e f = cc

  value_leads : (visit : Visit) (v j : ℕ) → j ≤ 6 → held_number t < 65536 → Facts false (Value visit v j) t (c ∷ u) → c ∷ u ≡ last_digits (held_number t) (6 - j) → Goes (value_hears t.careful t.word visit v j c) (visit_keys t.careful visit t.word (held_number t) later)
  value_leads visit v zero small wide facts e = first_leads visit _ wide e
  value_leads visit v (suc zero) small wide facts e = digit_leads visit v 1 (head (held_number t) 2) _ e
  value_leads visit v (suc (suc zero)) small wide facts e = digit_leads visit v 2 (head (held_number t) 3) _ e
  value_leads visit v (suc (suc (suc zero))) small wide facts e = digit_leads visit v 3 (head (held_number t) 4) _ e
  value_leads visit v (suc (suc (suc (suc zero)))) small wide facts e = digit_leads visit v 4 (head (held_number t) 5) _ e
  value_leads visit v (suc (suc (suc (suc (suc zero))))) small wide facts e = digit_leads visit v 5 (head (held_number t) 6) _ e
  value_leads visit v (suc (suc (suc (suc (suc (suc zero)))))) small wide facts e =
      at_first 32 _ (visit_keys t.careful visit t.word (held_number t) later) (λ x. value_hears t.careful t.word visit v 6 x) e (read_leads visit v facts.0 (facts.2 e))
  value_leads visit v (suc (suc (suc (suc (suc (suc (suc j))))))) small wide facts e = absurd (omega arith)

  reading_is : Lies t → reading t ≡ (if t.style.space_before then 32 ∷ last_digits (held_number t) 6 else last_digits (held_number t) 6)
  reading_is lies = ap (λ b. if b then (if t.style.space_before then 32 ∷ last_digits (held_number t) 6 else last_digits (held_number t) 6) else 63 ∷ prompt_from t.style.two_returns 0) lies

  -- a character of the exact answer leads on, in every phase
  pub hears_leads : (phase : Phase) (b : Basis) → PhaseFits phase b → held_number t < 65536 → (HasWord b → Lies t) → Facts false phase t (c ∷ u) → c ∷ u ≡ rest_of phase t → Goes (hears t.careful t.word t.start phase c) (left phase t here later)
  hears_leads Settle b fits wide lies facts e = refl
  hears_leads (Sync k) b fits wide lies facts e = sync_leads k (omega arith) e
  hears_leads (Address visit k) b fits wide lies facts e = address_leads visit k fits.1 e
  hears_leads (Slash visit) b fits wide lies facts e = slash_leads visit _ e
  hears_leads (Before visit) b fits wide lies facts e = before_leads visit t.style.space_before wide (e ∙ reading_is (lies fits.0))
  hears_leads (Value visit v j) b fits wide lies facts e = value_leads visit v j fits.1 wide facts e
  hears_leads (Deposit deposit x k) b fits wide lies facts e = deposit_leads deposit x k fits.1 e
  hears_leads (Return (Store deposit x) k) b fits wide lies facts e = let to = fits.1 in return_leads (Store deposit x) (check_keys t.word.address later) (λ k. refl) refl k (omega arith) e
  hears_leads (Return (Reopen first) k) b fits wide lies facts e = let to = fits.1 in return_leads (Reopen first) (again_keys t.word (held_number t) later) (λ k. refl) refl k (omega arith) e
  hears_leads (Return (Missing a) k) b fits wide lies facts e = let there = lies fits.0.0 in absurd (cc)
  hears_leads (Return Close k) b fits wide lies facts e = return_leads Close here (λ k. refl) refl k (omega arith) e
  hears_leads (Start k) b fits wide lies facts e = start_leads k fits.1 e
  hears_leads Go b fits wide lies facts e = at_first 71 [] [] (λ x. go_hears x) e refl
  hears_leads (Ended end) b fits wide lies facts e = refl
