-- What ODT answers to a changed key is fine.
use Rattle.std.proofs.Common.{◌≡◌, ◌≢◌, ℕ, ◌+◌, ◌%◌, ◌<◌, ◌⊎◌, Bool, true, false, eqb, not, ◌&&◌, List, [], ◌∷◌, inl, inr, refl, arith, sym, subst}
use Rattle.std.specs.Prelude.{if◌then◌else◌}
use Rattle.std.proofs.lemmas.Bool.Decides.{nat_tests}
use Rattle.octal.specs.Octal.{is_digit, head}
use Rattle.odt_machine.specs.declared.style.Style.{Style}
use Rattle.odt_machine.specs.declared.mode.Mode.{Mode}
use Rattle.odt_machine.specs.declared.mode.Mode.TheVariants.{Prompt}
use Rattle.odt_machine.specs.Answer.{illegal_text}
use Rattle.host_core.specs.declared.phase.Reason.{Reason}
use Rattle.host_core.specs.declared.phase.Reason.TheVariants.{Store, Reopen, Missing, Close}
use Rattle.host_core.specs.declared.phase.Phase.{Phase}
use Rattle.host_core.specs.declared.phase.Phase.TheVariants.{Settle, Sync, Address, Slash, Before, Value, Deposit, Return, Start, Go, Ended}
use Rattle.host_core.specs.Console.{resynchronise_of}
use Rattle.host_core.specs.PhaseTable.{synced, returns}
use Rattle.host_core.proofs.Replies.{either}
use Rattle.line_world.specs.Site.{Site}
use Rattle.line_world.specs.Wire.{is_harmless}
use Rattle.line_world.specs.Struck.{Goes, Fine, Missed}
use Rattle.line_world.proofs.Parts.{differ}
use Rattle.line_world.proofs.Ways.{IsSure, Each, Tail, tail_last, LastOnly, fine_sync, fine_return, fine_address, fine_deposit, fine_start, fine_no_go, fine_no_slash}

-- a digit is none of these
digit_is_not : (h c : ℕ) → c < 48 ⊎ 55 < c → c ≢ 48 + h % 8
digit_is_not h c (inl e) same = omega arith
digit_is_not h c (inr e) same = omega arith

each_illegal : (Q : ℕ → Type 0) (s : Style) (c : ℕ) → Q c → Q 63 → Q 13 → Q 10 → Q 64 → Each Q (illegal_text s c)
each_illegal Q s c qc q cr lf at = by_style s.echo_illegal s.two_returns
  where
    by_style : (echo two : Bool) → Each Q (if echo then c ∷ 63 ∷ (if two then 13 ∷ 13 ∷ 10 ∷ 64 ∷ [] else 13 ∷ 10 ∷ 64 ∷ []) else 63 ∷ (if two then 13 ∷ 13 ∷ 10 ∷ 64 ∷ [] else 13 ∷ 10 ∷ 64 ∷ []))
    by_style true true = (qc, (q, (cr, (cr, (lf, (at, tt))))))
    by_style true false = (qc, (q, (cr, (lf, (at, tt)))))
    by_style false true = (q, (cr, (cr, (lf, (at, tt)))))
    by_style false false = (q, (cr, (lf, (at, tt))))

last_at : LastOnly 64 (64 ∷ [])
last_at = (λ e. refl, tt)

tail_illegal : (s : Style) (c : ℕ) → Tail (illegal_text s c)
tail_illegal s c = by_style s.echo_illegal s.two_returns
  where
    other : (d : ℕ) → d ≢ 10 → d ≡ 10 → LastOnly 64 []
    other d f e = absurd (f e)

    closing : (two : Bool) → Tail (if two then 13 ∷ 13 ∷ 10 ∷ 64 ∷ [] else 13 ∷ 10 ∷ 64 ∷ [])
    closing true = (λ e. absurd (differ 13 10 refl e), (λ e. absurd (differ 13 10 refl e), (λ e. last_at, tail_last (64 ∷ []) last_at)))
    closing false = (λ e. absurd (differ 13 10 refl e), (λ e. last_at, tail_last (64 ∷ []) last_at))

    question : (two : Bool) → Tail (63 ∷ (if two then 13 ∷ 13 ∷ 10 ∷ 64 ∷ [] else 13 ∷ 10 ∷ 64 ∷ []))
    question two = (λ e. absurd (differ 63 10 refl e), closing two)

    only_at : (two : Bool) → LastOnly 64 (63 ∷ (if two then 13 ∷ 13 ∷ 10 ∷ 64 ∷ [] else 13 ∷ 10 ∷ 64 ∷ []))
    only_at true = (λ e. absurd (differ 63 64 refl e), (λ e. absurd (differ 13 64 refl e), (λ e. absurd (differ 13 64 refl e), (λ e. absurd (differ 10 64 refl e), last_at))))
    only_at false = (λ e. absurd (differ 63 64 refl e), (λ e. absurd (differ 13 64 refl e), (λ e. absurd (differ 10 64 refl e), last_at)))

    by_style : (echo two : Bool) → Tail (if echo then c ∷ 63 ∷ (if two then 13 ∷ 13 ∷ 10 ∷ 64 ∷ [] else 13 ∷ 10 ∷ 64 ∷ []) else 63 ∷ (if two then 13 ∷ 13 ∷ 10 ∷ 64 ∷ [] else 13 ∷ 10 ∷ 64 ∷ []))
    by_style true two = (λ e. only_at two, question two)
    by_style false two = question two

not_slash : (c : ℕ) → is_harmless c ≡ true → c ≢ 47
not_slash c h same = tests (eqb c 13) (eqb c 47) (eqb c 71) h (is c same)
  where
    tests : (a b d : Bool) → (not a && (not b && not d)) ≡ true → b ≡ true → ⊥
    tests false false d e f = cc
    tests true b d e f = cc
    tests false true d e f = cc

    is : (c : ℕ) → c ≡ 47 → eqb c 47 ≡ true
    is c same = grind (arith, nat_tests)

not_go : (c : ℕ) → is_harmless c ≡ true → c ≢ 71
not_go c h same = tests (eqb c 13) (eqb c 47) (eqb c 71) h (is c same)
  where
    tests : (a b d : Bool) → (not a && (not b && not d)) ≡ true → d ≡ true → ⊥
    tests false false true e f = cc
    tests false false false e f = cc
    tests true b d e f = cc
    tests false true d e f = cc

    is : (c : ℕ) → c ≡ 71 → eqb c 71 ≡ true
    is c same = grind (arith, nat_tests)

module _ (t : Site) (mode : Mode) where
  -- nothing listed comes
  missed_each : (phase : Phase) (c : ℕ) (u : List ℕ) → Missed phase t c → ((Q : ℕ → Type 0) → Q c → Q 63 → Q 13 → Q 10 → Q 64 → Each Q u) → is_harmless c ≡ true → ((why : Reason) → IsSure why t → Fine t mode (Return why 0) u) → Fine t mode (Sync 0) u → Fine t mode phase u
  missed_each Settle c u missed each h back sync = absurd missed
  missed_each (Sync k) c u missed each h back sync = subst (λ i. Fine t mode (Sync i) u) (sym missed) sync
  missed_each (Address visit k) c u missed each h back sync = let d = head t.word.address k in fine_address t mode visit k u (each _ missed (digit_is_not d 63 (inr (omega arith))) (digit_is_not d 13 (inl (omega arith))) (digit_is_not d 10 (inl (omega arith))) (digit_is_not d 64 (inr (omega arith))))
  missed_each (Slash visit) c u missed each h back sync = fine_no_slash t mode visit u (each _ (not_slash c h) (differ 63 47 refl) (differ 13 47 refl) (differ 10 47 refl) (differ 64 47 refl))
  missed_each (Before visit) c u missed each h back sync = absurd missed
  missed_each (Value visit v j) c u missed each h back sync = absurd missed
  missed_each (Deposit last x k) c u missed each h back sync = let d = head x k in fine_deposit t mode last x k u (each _ missed (digit_is_not d 63 (inr (omega arith))) (digit_is_not d 13 (inl (omega arith))) (digit_is_not d 10 (inl (omega arith))) (digit_is_not d 64 (inr (omega arith))))
  missed_each (Return (Store last x) k) c u missed each h back sync = subst (λ i. Fine t mode (Return (Store last x) i) u) (sym missed) (back (Store last x) tt)
  missed_each (Return (Reopen first) k) c u missed each h back sync = subst (λ i. Fine t mode (Return (Reopen first) i) u) (sym missed) (back (Reopen first) tt)
  missed_each (Return (Missing a) k) c u missed each h back sync = absurd missed
  missed_each (Return Close k) c u missed each h back sync = subst (λ i. Fine t mode (Return Close i) u) (sym missed) (back Close tt)
  missed_each (Start k) c u missed each h back sync = let d = head t.start k in fine_start t mode k u (each _ missed (digit_is_not d 63 (inr (omega arith))) (digit_is_not d 13 (inl (omega arith))) (digit_is_not d 10 (inl (omega arith))) (digit_is_not d 64 (inr (omega arith))))
  missed_each Go c u missed each h back sync = fine_no_go t mode u (each _ (not_go c h) (differ 63 71 refl) (differ 13 71 refl) (differ 10 71 refl) (differ 64 71 refl))
  missed_each (Ended end) c u missed each h back sync = absurd missed

  one_sync : (c : ℕ) → Fine t mode (Sync 0) (c ∷ [])
  one_sync c = (tt, either (λ r. Goes t mode (Sync 0) [] (λ next. Fine t mode next []) (synced r)) (eqb c (resynchronise_of t.careful)) _ _ (λ _. tt) (λ _. either (λ r. Goes t mode (Sync 0) [] (λ next. Fine t mode next []) (synced r)) (eqb c 63) _ _ (λ _. tt) (λ _. tt)))

  one_return : (c : ℕ) (why : Reason) → IsSure why t → Fine t mode (Return why 0) (c ∷ [])
  one_return c why sure = (tt, either (λ r. Goes t mode (Return why 0) [] (λ next. Fine t mode next []) (returns why r)) (eqb c 13) _ _ (λ _. tt) (λ _. tt))

pub missed_fine : (t : Site) (mode : Mode) (phase : Phase) (c : ℕ) (answer : List ℕ) → is_harmless c ≡ true → Missed phase t c →
    (answer ≡ []) ⊎ (((answer ≡ c ∷ []) × (is_digit c ≡ true)) ⊎ ((answer ≡ illegal_text t.style c) × (mode ≡ Prompt))) → Fine t mode phase answer
missed_fine t mode phase c answer h missed (inl none) = subst (λ l. Fine t mode phase l) (sym none) tt
missed_fine t mode phase c answer h missed (inr (inl (is, digit))) =
    subst (λ l. Fine t mode phase l) (sym is) (missed_each t mode phase c (c ∷ []) missed (λ Q qc q cr lf at. (qc, tt)) h (one_return t mode c) (one_sync t mode c))
missed_fine t mode phase c answer h missed (inr (inr (is, prompt))) =
    subst (λ l. Fine t mode phase l) (sym is) (missed_each t mode phase c (illegal_text t.style c) missed (λ Q qc q cr lf at. each_illegal Q t.style c qc q cr lf at) h
    (λ why sure. fine_return t mode why sure prompt (illegal_text t.style c) (tail_illegal t.style c) 0 (omega arith)) (fine_sync t mode prompt (illegal_text t.style c) (tail_illegal t.style c) 0 (omega arith)))
