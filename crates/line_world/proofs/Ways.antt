-- What may still come in an exchange in which a character was changed, and that it is fine.
use Rattle.std.proofs.Common.{◌≡◌, ◌≢◌, ℕ, zero, suc, ◌+◌, ◌-◌, ◌*◌, ◌<◌, ◌≤◌, ◌⊎◌, Bool, true, false, eqb, set, List, [], ◌∷◌, length, inl, inr, refl, arith, sym, subst, ◌∙◌, length-set}
use Rattle.std.specs.Prelude.{◌||◌}
use Rattle.std.specs.List.{remove}
use Rattle.std.proofs.lemmas.Bool.Decides.{nat_tests}
use Rattle.octal.specs.Octal.{digit_of}
use Rattle.odt_machine.specs.declared.mode.Mode.{Mode}
use Rattle.odt_machine.specs.declared.mode.Mode.TheVariants.{Prompt, Opened, Running}
use Rattle.host_core.specs.declared.phase.Try.{Try}
use Rattle.host_core.specs.declared.phase.Visit.{Visit}
use Rattle.host_core.specs.declared.phase.Reason.{Reason}
use Rattle.host_core.specs.declared.phase.Reason.TheVariants.{Store, Reopen, Missing, Close}
use Rattle.host_core.specs.declared.phase.Phase.{Phase}
use Rattle.host_core.specs.declared.phase.Phase.TheVariants.{Sync, Address, Slash, Before, Value, Deposit, Return, Start, Go}
use Rattle.host_core.specs.declared.turn.Turn.{Turn}
use Rattle.host_core.specs.declared.turn.Turn.TheVariants.{Listen, Key, Verified, Revisit, Next, Mark, Stop, Stray, Timeout}
use Rattle.host_core.specs.Console.{resynchronise_of}
use Rattle.host_core.specs.PhaseTable.{hears, synced, sync_hears, echoed, absent, reads, read, returns, returned, return_hears}
use Rattle.host_core.proofs.Replies.{either, return_walk as return_reply_walk, rest_walk}
use Rattle.host_core.proofs.Walk.{address_walk, read_walk, deposit_walk, start_walk, go_walk}
use Rattle.line_world.specs.Site.{Site, IsMissing}
use Rattle.line_world.specs.Pending.{IsRemnant, after_of}
use Rattle.line_world.specs.Struck.{Goes, Fine}
use Rattle.line_world.proofs.Parts.{part_peel, part_length}

-- where less is left, and something is left
goes_less : (t : Site) (mode : Mode) (phase : Phase) (u less : List ℕ) (on later : Phase → Type 0) (turn : Turn) → (u ≡ [] → ⊥) → ((next : Phase) → on next → later next) → Goes t mode phase u on turn → Goes t mode phase less later turn
goes_less t mode phase u less on later (Listen next) some step h = step next h
goes_less t mode phase u less on later (Key key next) some step h = absurd (some h.0)
goes_less t mode phase u less on later Verified some step h = absurd (some h.0)
goes_less t mode phase u less on later (Revisit visit) some step h = absurd (some h.0)
goes_less t mode phase u less on later Next some step h = absurd (some h.0)
goes_less t mode phase u less on later Mark some step h = absurd (some h.0)
goes_less t mode phase u less on later (Stop end) some step h = h
goes_less t mode phase u less on later Stray some step h = tt
goes_less t mode phase u less on later Timeout some step h = absurd (some h.0)

-- a lost character leaves it fine
pub fine_remove : (t : Site) (mode : Mode) (phase : Phase) (up : List ℕ) (k : ℕ) → k < length up → Fine t mode phase up → Fine t mode phase (remove up k)
fine_remove t mode phase [] k below h = absurd (omega arith)
fine_remove t mode phase (c ∷ u) zero below h = h.0
fine_remove t mode phase (c ∷ u) (suc k) below h = (
  fine_remove t mode phase u k (omega arith) h.0,
  goes_less t mode phase u (remove u k) (λ next. Fine t mode next u) (λ next. Fine t mode next (remove u k)) (hears t.careful t.word t.start phase c) (filled u k (omega arith)) (λ next fine. fine_remove t mode next u k (omega arith) fine) h.1,
)
  where
    filled : (u : List ℕ) (k : ℕ) → k < length u → u ≡ [] → ⊥
    filled [] k below e = omega arith
    filled (x ∷ u) k below e = cc

pub equal : (a b : ℕ) → eqb a b ≡ true → a ≡ b
equal a b e = grind (arith, nat_tests)

-- ---- lists

-- a number stands nowhere but at the end
abbrev pub LastOnly : ℕ → List ℕ → Type 0
LastOnly d [] = Unit {0}
LastOnly d (c ∷ u) = (c ≡ d → u ≡ []) × LastOnly d u

-- each of a list's numbers is so
abbrev pub Each : (ℕ → Type 0) → List ℕ → Type 0
Each Q [] = Unit {0}
Each Q (c ∷ u) = Q c × Each Q u

none_left : (xs : List ℕ) → length xs ≤ 0 → xs ≡ []
none_left [] h = refl
none_left (x ∷ xs) h = absurd (omega arith)

part_none : (xs : List ℕ) → IsRemnant xs [] → xs ≡ []
part_none [] h = refl
part_none (x ∷ xs) h = absurd h

pub last_part : (d : ℕ) (xs ys : List ℕ) → IsRemnant xs ys → LastOnly d ys → LastOnly d xs
last_part d [] ys part only = tt
last_part d (x ∷ xs) [] part only = absurd part
last_part d (x ∷ xs) (y ∷ ys) (inl h) only = (λ e. part_none xs (subst (λ zs. IsRemnant xs zs) (only.0 (sym h.0 ∙ e)) h.1), last_part d xs ys h.1 only.1)
last_part d (x ∷ xs) (y ∷ ys) (inr h) only = last_part d (x ∷ xs) ys h only.1

pub each_part : (Q : ℕ → Type 0) (xs ys : List ℕ) → IsRemnant xs ys → Each Q ys → Each Q xs
each_part Q [] ys part each = tt
each_part Q (x ∷ xs) [] part each = absurd part
each_part Q (x ∷ xs) (y ∷ ys) (inl h) each = (subst Q (sym h.0) each.0, each_part Q xs ys h.1 each.1)
each_part Q (x ∷ xs) (y ∷ ys) (inr h) each = each_part Q (x ∷ xs) ys h each.1

-- what is left behind the first that is heard
pub part_behind : (x y : ℕ) (u ys : List ℕ) → IsRemnant (x ∷ u) (y ∷ ys) → IsRemnant u ys
part_behind x y u ys (inl h) = h.1
part_behind x y u ys (inr h) = part_peel x u ys h

pub last_short : (d : ℕ) (xs : List ℕ) → length xs ≤ 1 → LastOnly d xs
last_short d [] h = tt
last_short d (x ∷ xs) h = (λ e. none_left xs (omega arith), last_short d xs (omega arith))

-- behind a LF, `@` stands at the end alone
abbrev pub Tail : List ℕ → Type 0
Tail [] = Unit {0}
Tail (c ∷ u) = (c ≡ 10 → LastOnly 64 u) × Tail u

-- behind a LF one character stands at most
abbrev pub Near : List ℕ → Type 0
Near [] = Unit {0}
Near (c ∷ u) = (c ≡ 10 → length u ≤ 1) × Near u

pub near_part : (xs ys : List ℕ) → IsRemnant xs ys → Near ys → Near xs
near_part [] ys part near = tt
near_part (x ∷ xs) [] part near = absurd part
near_part (x ∷ xs) (y ∷ ys) (inl h) near = (λ e. let few = near.0 (sym h.0 ∙ e) in omega (arith, part_length xs ys h.1), near_part xs ys h.1 near.1)
near_part (x ∷ xs) (y ∷ ys) (inr h) near = near_part (x ∷ xs) ys h near.1

pub tail_last : (xs : List ℕ) → LastOnly 64 xs → Tail xs
tail_last [] h = tt
tail_last (x ∷ xs) h = (λ e. h.1, tail_last xs h.1)

-- one character was changed
pub tail_set : (xs : List ℕ) → LastOnly 64 xs → Near xs → (k c : ℕ) → Tail (set xs k c)
tail_set [] only near zero c = tt
tail_set [] only near (suc k) c = tt
tail_set (x ∷ xs) only near zero c = (λ e. only.1, tail_last xs only.1)
tail_set (x ∷ xs) only near (suc k) c = (λ e. last_short 64 (set xs k c) (let few = near.0 e in omega (arith, length-set xs k c)), tail_set xs only.1 near.1 k c)

first_is : (c : ℕ) → (eqb c 48 || eqb c 49) ≡ true → (48 ≤ c) × (c ≤ 49)
first_is c h = grind (arith, nat_tests)

-- a space stands at the end alone, or no more is left than digits and a space are due
abbrev pub Due : ℕ → List ℕ → Type 0
Due j u = LastOnly 32 u ⊎ (length u + j ≤ 7)

-- the beginning of a reading, where a word is open: behind a `?` no CR stands
abbrev pub Begun : List ℕ → Type 0
Begun [] = Unit {0}
Begun (c ∷ u) = (Due 1 u ⊎ ((c ≡ 32) × (length u ≤ 7))) × (c ≡ 63 → Each (λ d. d ≢ 13) u) × Begun u

-- the same, where none is
abbrev pub Refused : List ℕ → Type 0
Refused [] = Unit {0}
Refused (c ∷ u) = (Each (λ d. d ≢ 32) u ⊎ ((c ≢ 32) × ((c < 48) ⊎ (49 < c)))) × Refused u

-- behind the echo of `/`
abbrev pub Slashed : (List ℕ → Type 0) → List ℕ → Type 0
Slashed P [] = Unit {0}
Slashed P (c ∷ u) = P u × Slashed P u

-- behind a `?` in place of a reading, no memory answers
abbrev pub IsSure : Reason → Site → Type 0
IsSure (Store deposit x) t = Unit {0}
IsSure (Reopen first) t = Unit {0}
IsSure (Missing a) t = IsMissing t
IsSure Close t = Unit {0}

-- ---- the answers to `Z` and to CR

module _ (t : Site) (mode : Mode) where
  abbrev On : List ℕ → Phase → Type 0
  On u next = Fine t mode next u

  below_five : (P : ℕ → Type 0) → P 0 → P 1 → P 2 → P 3 → P 4 → (k : ℕ) → k < 5 → P k
  below_five P a b c d e zero h = a
  below_five P a b c d e (suc zero) h = b
  below_five P a b c d e (suc (suc zero)) h = c
  below_five P a b c d e (suc (suc (suc zero))) h = d
  below_five P a b c d e (suc (suc (suc (suc zero)))) h = e
  below_five P a b c d e (suc (suc (suc (suc (suc k))))) h = absurd (omega arith)

  pub fine_sync_last : mode ≡ Prompt → (u : List ℕ) → LastOnly 64 u → Fine t mode (Sync 5) u
  fine_sync_last prompt [] only = tt
  fine_sync_last prompt (c ∷ u) only = (
    fine_sync_last prompt u only.1,
    either (λ r. Goes t mode (Sync 5) u (On u) (synced r)) (eqb c 64) _ _ (λ e. (only.0 (equal c 64 e), prompt)) (λ _. tt),
  )

  pub fine_sync : mode ≡ Prompt → (u : List ℕ) → Tail u → (k : ℕ) → k < 5 → Fine t mode (Sync k) u
  fine_sync prompt [] h k below = tt
  fine_sync prompt (c ∷ u) h k below = (
    fine_sync prompt u h.1 k below,
    below_five (λ k. Goes t mode (Sync k) u (On u) (sync_hears t.careful k c))
        (either (λ r. Goes t mode (Sync 0) u (On u) (synced r)) (eqb c (resynchronise_of t.careful)) _ _ (λ e. fine_sync prompt u h.1 1 (omega arith))
        (λ _. either (λ r. Goes t mode (Sync 0) u (On u) (synced r)) (eqb c 63) _ _ (λ e. fine_sync prompt u h.1 2 (omega arith)) (λ _. tt)))
        (either (λ r. Goes t mode (Sync 1) u (On u) (synced r)) (eqb c 63) _ _ (λ e. fine_sync prompt u h.1 2 (omega arith)) (λ _. tt))
        (either (λ r. Goes t mode (Sync 2) u (On u) (synced r)) (eqb c 13) _ _ (λ e. fine_sync prompt u h.1 3 (omega arith)) (λ _. tt))
        (either (λ r. Goes t mode (Sync 3) u (On u) (synced r)) (eqb c 13) _ _ (λ e. fine_sync prompt u h.1 4 (omega arith))
        (λ _. either (λ r. Goes t mode (Sync 3) u (On u) (synced r)) (eqb c 10) _ _ (λ e. fine_sync_last prompt u (h.0 (equal c 10 e))) (λ _. tt)))
        (either (λ r. Goes t mode (Sync 4) u (On u) (synced r)) (eqb c 10) _ _ (λ e. fine_sync_last prompt u (h.0 (equal c 10 e))) (λ _. tt))
        k below,
  )

  below_three : (P : ℕ → Type 0) → P 0 → P 1 → P 2 → (k : ℕ) → k < 3 → P k
  below_three P a b c zero h = a
  below_three P a b c (suc zero) h = b
  below_three P a b c (suc (suc zero)) h = c
  below_three P a b c (suc (suc (suc k))) h = absurd (omega arith)

  goes_returned : (why : Reason) → IsSure why t → (u : List ℕ) → u ≡ [] → mode ≡ Prompt → Goes t mode (Return why 3) u (On u) (returned why)
  goes_returned (Store last x) sure u none prompt = (none, prompt)
  goes_returned (Reopen r) sure u none prompt = (none, prompt)
  goes_returned (Missing a) sure u none prompt = sure
  goes_returned Close sure u none prompt = (none, prompt)

  pub fine_return_last : (why : Reason) → IsSure why t → mode ≡ Prompt → (u : List ℕ) → LastOnly 64 u → Fine t mode (Return why 3) u
  fine_return_last why sure prompt [] only = tt
  fine_return_last why sure prompt (c ∷ u) only = (
    fine_return_last why sure prompt u only.1,
    either (λ r. Goes t mode (Return why 3) u (On u) (returns why r)) (eqb c 64) _ _ (λ e. goes_returned why sure u (only.0 (equal c 64 e)) prompt) (λ _. tt),
  )

  pub fine_return : (why : Reason) → IsSure why t → mode ≡ Prompt → (u : List ℕ) → Tail u → (k : ℕ) → k < 3 → Fine t mode (Return why k) u
  fine_return why sure prompt [] h k below = tt
  fine_return why sure prompt (c ∷ u) h k below = (
    fine_return why sure prompt u h.1 k below,
    below_three (λ k. Goes t mode (Return why k) u (On u) (return_hears why k c))
        (either (λ r. Goes t mode (Return why 0) u (On u) (returns why r)) (eqb c 13) _ _ (λ e. fine_return why sure prompt u h.1 1 (omega arith)) (λ _. tt))
        (either (λ r. Goes t mode (Return why 1) u (On u) (returns why r)) (eqb c 13) _ _ (λ e. fine_return why sure prompt u h.1 2 (omega arith))
        (λ _. either (λ r. Goes t mode (Return why 1) u (On u) (returns why r)) (eqb c 10) _ _ (λ e. fine_return_last why sure prompt u (h.0 (equal c 10 e))) (λ _. tt)))
        (either (λ r. Goes t mode (Return why 2) u (On u) (returns why r)) (eqb c 10) _ _ (λ e. fine_return_last why sure prompt u (h.0 (equal c 10 e))) (λ _. tt))
        k below,
  )

  -- ---- echoes

  -- no echo comes
  pub fine_address : (visit : Visit) (k : ℕ) (u : List ℕ) → Each (λ c. c ≢ digit_of t.word.address k) u → Fine t mode (Address visit k) u
  fine_address visit k [] other = tt
  fine_address visit k (c ∷ u) other = (
    fine_address visit k u other.1,
    either (λ e. Goes t mode (Address visit k) u (On u) (echoed e (Address visit (k + 1)) (Key 47 (Slash visit)))) (eqb c (digit_of t.word.address k)) _ _
        (λ e. absurd (other.0 (equal c (digit_of t.word.address k) e))) (λ _. tt),
  )

  pub fine_deposit : (last : Try) (x k : ℕ) (u : List ℕ) → Each (λ c. c ≢ digit_of x k) u → Fine t mode (Deposit last x k) u
  fine_deposit last x k [] other = tt
  fine_deposit last x k (c ∷ u) other = (
    fine_deposit last x k u other.1,
    either (λ e. Goes t mode (Deposit last x k) u (On u) (echoed e (Deposit last x (k + 1)) (Key 13 (Return (Store last x) 0)))) (eqb c (digit_of x k)) _ _
        (λ e. absurd (other.0 (equal c (digit_of x k) e))) (λ _. tt),
  )

  pub fine_start : (k : ℕ) (u : List ℕ) → Each (λ c. c ≢ digit_of t.start k) u → Fine t mode (Start k) u
  fine_start k [] other = tt
  fine_start k (c ∷ u) other = (
    fine_start k u other.1,
    either (λ e. Goes t mode (Start k) u (On u) (echoed e (Start (k + 1)) Mark)) (eqb c (digit_of t.start k)) _ _ (λ e. absurd (other.0 (equal c (digit_of t.start k) e))) (λ _. tt),
  )

  pub fine_go : mode ≡ Running t.start → (u : List ℕ) → Fine t mode Go u
  fine_go runs [] = tt
  fine_go runs (c ∷ u) = (fine_go runs u, go_walk (Goes t mode Go u (On u)) c runs tt)

  -- no echo of `G` comes
  pub fine_no_go : (u : List ℕ) → Each (λ c. c ≢ 71) u → Fine t mode Go u
  fine_no_go [] other = tt
  fine_no_go (c ∷ u) other = (
    fine_no_go u other.1,
    either (Goes t mode Go u (On u)) (eqb c 71) _ _ (λ e. absurd (other.0 (equal c 71 e))) (λ _. tt),
  )

  -- where no memory answers, `NoWord` is right whatever comes
  pub fine_missing : IsMissing t → (a k : ℕ) (u : List ℕ) → Fine t mode (Return (Missing a) k) u
  fine_missing missing a k [] = tt
  fine_missing missing a k (c ∷ u) = (
    fine_missing missing a k u,
    return_reply_walk (λ r. Goes t mode (Return (Missing a) k) u (On u) (returns (Missing a) r)) k c tt (λ i le. fine_missing missing a i u) (λ _. missing),
  )

  -- where no CR comes, it isn't said
  fine_no_return : (a : ℕ) (u : List ℕ) → Each (λ c. c ≢ 13) u → Fine t mode (Return (Missing a) 0) u
  fine_no_return a [] other = tt
  fine_no_return a (c ∷ u) other = (
    fine_no_return a u other.1,
    either (λ r. Goes t mode (Return (Missing a) 0) u (On u) (returns (Missing a) r)) (eqb c 13) _ _ (λ e. absurd (other.0 (equal c 13 e))) (λ _. tt),
  )

  -- a careful host awaits the rest of the refusal
  goes_absent : (phase : Phase) (careful : Bool) (a : ℕ) (u : List ℕ) → careful ≡ true → Fine t mode (Return (Missing a) 0) u → Goes t mode phase u (On u) (absent careful a)
  goes_absent phase true a u care fine = fine
  goes_absent phase false a u care fine = absurd (cc)

  pub fine_no_slash : (visit : Visit) (u : List ℕ) → Each (λ c. c ≢ 47) u → Fine t mode (Slash visit) u
  fine_no_slash visit [] other = tt
  fine_no_slash visit (c ∷ u) other = (
    fine_no_slash visit u other.1,
    either (Goes t mode (Slash visit) u (On u)) (eqb c 47) _ _ (λ e. absurd (other.0 (equal c 47 e))) (λ _. tt),
  )

  -- one character for an echo, whatever it is
  pub one_address : (visit : Visit) (k c : ℕ) → mode ≡ after_of (Address visit k) t → Fine t mode (Address visit k) (c ∷ [])
  one_address visit k c after = (tt, address_walk (Goes t mode (Address visit k) [] (On [])) t.word.address visit k c tt (λ _. (refl, after)) (refl, after))

  pub one_deposit : (last : Try) (x k c : ℕ) → mode ≡ after_of (Deposit last x k) t → Fine t mode (Deposit last x k) (c ∷ [])
  one_deposit last x k c after = (tt, deposit_walk (Goes t mode (Deposit last x k) [] (On [])) last x k c tt (λ _. (refl, after)) (refl, after))

  pub one_start : (k c : ℕ) → mode ≡ after_of (Start k) t → Fine t mode (Start k) (c ∷ [])
  one_start k c after = (tt, start_walk (Goes t mode (Start k) [] (On [])) t.start k c tt (λ _. (refl, after)) (λ _. (refl, after)))

  -- ---- readings

  due_less : (j c : ℕ) (u : List ℕ) → Due j (c ∷ u) → Due j u
  due_less j c u (inl h) = inl h.1
  due_less j c u (inr h) = inr (omega arith)

  due_on : (j n c : ℕ) (u : List ℕ) → n ≤ j + 1 → Due j (c ∷ u) → Due n u
  due_on j n c u le (inl h) = inl h.1
  due_on j n c u le (inr h) = inr (omega arith)

  due_none : (j c : ℕ) (u : List ℕ) → 6 ≤ j → c ≡ 32 → Due j (c ∷ u) → u ≡ []
  due_none j c u all is (inl h) = h.0 is
  due_none j c u all is (inr h) = none_left u (omega arith)

  goes_read : (visit : Visit) (v j : ℕ) (u : List ℕ) → u ≡ [] → mode ≡ Opened t.word.address → Goes t mode (Value visit v j) u (On u) (read t.careful t.word visit v)
  goes_read visit v j u none opened =
      read_walk (Goes t mode (Value visit v j) u (On u)) t.careful t.word visit v tt (λ _. (none, opened)) (λ _ _. (none, opened)) (λ _ _. (none, opened)) (λ _ _. (none, opened)) (λ _ _. (none, opened)) (λ _ _. (none, opened)) tt

  pub fine_value : mode ≡ Opened t.word.address → (visit : Visit) (u : List ℕ) (v j : ℕ) → Due j u → Fine t mode (Value visit v j) u
  fine_value opened visit [] v j due = tt
  fine_value opened visit (c ∷ u) v j due = (
    fine_value opened visit u v j (due_less j c u due),
    rest_walk (λ r. Goes t mode (Value visit v j) u (On u) (reads t.careful t.word visit r)) v j c tt
        (λ z low high. fine_value opened visit u (c - 48) 1 (due_on j 1 c u (omega arith) due))
        (λ some less digit. fine_value opened visit u (8 * v + (c - 48)) (j + 1) (due_on j (j + 1) c u (omega arith) due))
        (λ all blank. goes_read visit v j u (due_none j c u all (equal c 32 blank) due) opened),
  )

  -- no space comes
  pub fine_value_none : (visit : Visit) (u : List ℕ) (v j : ℕ) → Each (λ c. c ≢ 32) u → Fine t mode (Value visit v j) u
  fine_value_none visit [] v j other = tt
  fine_value_none visit (c ∷ u) v j other = (
    fine_value_none visit u v j other.1,
    rest_walk (λ r. Goes t mode (Value visit v j) u (On u) (reads t.careful t.word visit r)) v j c tt
        (λ z low high. fine_value_none visit u (c - 48) 1 other.1)
        (λ some less digit. fine_value_none visit u (8 * v + (c - 48)) (j + 1) other.1)
        (λ all blank. absurd (other.0 (equal c 32 blank))),
  )

  pub fine_before : t.careful ≡ true → mode ≡ Opened t.word.address → (visit : Visit) (u : List ℕ) → Begun u → Fine t mode (Before visit) u
  fine_before care opened visit [] h = tt
  fine_before care opened visit (c ∷ u) h = (
    fine_before care opened visit u h.2,
    either (λ r. Goes t mode (Before visit) u (On u) (reads t.careful t.word visit r)) (eqb c 32) _ _ (λ _. fine_value opened visit u 0 0 (blank c u h.0))
        (λ _. either (λ r. Goes t mode (Before visit) u (On u) (reads t.careful t.word visit r)) (eqb c 63) _ _
        (λ e. goes_absent (Before visit) t.careful t.word.address u care (fine_no_return t.word.address u (h.1 (equal c 63 e))))
        (λ _. either (λ r. Goes t mode (Before visit) u (On u) (reads t.careful t.word visit r)) (eqb c 48 || eqb c 49) _ _ (λ e. let small = first_is c e in fine_value opened visit u (c - 48) 1 (first c u small.0 h.0)) (λ _. tt))),
  )
    where
      blank : (c : ℕ) (u : List ℕ) → Due 1 u ⊎ ((c ≡ 32) × (length u ≤ 7)) → Due 0 u
      blank c u (inl (inl h)) = inl h
      blank c u (inl (inr h)) = inr (omega arith)
      blank c u (inr h) = inr (let few = h.1 in omega arith)

      first : (c : ℕ) (u : List ℕ) → 48 ≤ c → Due 1 u ⊎ ((c ≡ 32) × (length u ≤ 7)) → Due 1 u
      first c u low (inl h) = h
      first c u low (inr h) = absurd (let is = h.0 in omega arith)

  pub fine_before_none : t.careful ≡ true → IsMissing t → (visit : Visit) (u : List ℕ) → Refused u → Fine t mode (Before visit) u
  fine_before_none care missing visit [] h = tt
  fine_before_none care missing visit (c ∷ u) h = (
    fine_before_none care missing visit u h.1,
    either (λ r. Goes t mode (Before visit) u (On u) (reads t.careful t.word visit r)) (eqb c 32) _ _ (λ e. blank c u (equal c 32 e) h.0)
        (λ _. either (λ r. Goes t mode (Before visit) u (On u) (reads t.careful t.word visit r)) (eqb c 63) _ _ (λ _. goes_absent (Before visit) t.careful t.word.address u care (fine_missing missing t.word.address 0 u))
        (λ _. either (λ r. Goes t mode (Before visit) u (On u) (reads t.careful t.word visit r)) (eqb c 48 || eqb c 49) _ _ (λ e. let small = first_is c e in first c u small.0 small.1 h.0) (λ _. tt))),
  )
    where
      blank : (c : ℕ) (u : List ℕ) → c ≡ 32 → Each (λ d. d ≢ 32) u ⊎ ((c ≢ 32) × ((c < 48) ⊎ (49 < c))) → Fine t mode (Value visit 0 0) u
      blank c u is (inl h) = fine_value_none visit u 0 0 h
      blank c u is (inr h) = absurd (h.0 is)

      first : (c : ℕ) (u : List ℕ) → 48 ≤ c → c ≤ 49 → Each (λ d. d ≢ 32) u ⊎ ((c ≢ 32) × ((c < 48) ⊎ (49 < c))) → Fine t mode (Value visit (c - 48) 1) u
      first c u low high (inl h) = fine_value_none visit u (c - 48) 1 h
      first c u low high (inr (other, inl under)) = absurd (omega arith)
      first c u low high (inr (other, inr over)) = absurd (omega arith)

  pub fine_slash : (P : List ℕ → Type 0) (visit : Visit) → ((u : List ℕ) → P u → Fine t mode (Before visit) u) → (u : List ℕ) → Slashed P u → Fine t mode (Slash visit) u
  fine_slash P visit before [] h = tt
  fine_slash P visit before (c ∷ u) h = (
    fine_slash P visit before u h.1,
    either (Goes t mode (Slash visit) u (On u)) (eqb c 47) _ _ (λ e. before u h.0) (λ _. tt),
  )
