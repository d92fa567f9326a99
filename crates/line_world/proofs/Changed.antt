-- An exact answer of which characters may be lost and one was changed is fine.
use Rattle.std.proofs.Common.{◌≡◌, ◌≢◌, ℕ, zero, suc, ◌+◌, ◌-◌, ◌%◌, ◌<◌, ◌≤◌, ◌⊎◌, Bool, true, false, eqb, set, List, [], ◌∷◌, length, inl, inr, refl, arith, ap, sym, subst, ◌∙◌, length-set}
use Rattle.std.specs.Prelude.{if◌then◌else◌}
use Rattle.octal.specs.Octal.{digit_of, head}
use Rattle.odt_machine.specs.declared.style.Style.{Style}
use Rattle.odt_machine.specs.declared.mode.Mode.{Mode}
use Rattle.odt_machine.specs.declared.mode.Mode.TheVariants.{Prompt, Opened}
use Rattle.odt_machine.specs.Machine.{is_word}
use Rattle.host_core.specs.declared.phase.Visit.{Visit}
use Rattle.host_core.specs.declared.phase.Reason.{Reason}
use Rattle.host_core.specs.declared.phase.Reason.TheVariants.{Store, Reopen, Missing, Close}
use Rattle.host_core.specs.Console.{resynchronise_of}
use Rattle.host_core.specs.Host.{Basis, PhaseFits}
use Rattle.host_core.specs.declared.phase.Phase.{Phase}
use Rattle.host_core.specs.declared.phase.Phase.TheVariants.{Settle, Sync, Address, Slash, Before, Value, Deposit, Return, Start, Go, Ended}
use Rattle.line_world.specs.Site.{Site, held_number, Lies, opened_mode, last_digits, reading, prompt_from, refusal_from}
use Rattle.line_world.specs.Pending.{IsRemnant, Facts, after_of, rest_of}
use Rattle.line_world.specs.Struck.{Fine}
use Rattle.line_world.proofs.Parts.{part_peel, part_length, differ}
use Rattle.line_world.proofs.Ways.{LastOnly, Each, Near, Tail, Due, Begun, Refused, Slashed, last_part, each_part, near_part, part_behind, last_short, tail_set, fine_sync_last, fine_sync, fine_return_last, fine_return, one_address, one_deposit, one_start, fine_go, fine_missing, IsSure, fine_value, fine_before, fine_before_none, fine_slash}

-- ---- readings

spaced_digits : (w n : ℕ) → LastOnly 32 (last_digits w n)
spaced_digits w zero = (λ e. refl, tt)
spaced_digits w (suc n) = (λ e. absurd (other (head w (6 - n)) e), spaced_digits w n)
  where
    other : (h : ℕ) → 48 + h % 8 ≡ 32 → ⊥
    other h e = omega arith

digits_length : (w n : ℕ) → length (last_digits w n) ≡ n + 1
digits_length w zero = refl
digits_length w (suc n) = let fewer = digits_length w n in omega arith

behind : (space : Bool) (w x : ℕ) (u : List ℕ) → IsRemnant (x ∷ u) (if space then 32 ∷ last_digits w 6 else last_digits w 6) → LastOnly 32 u
behind true w x u part = last_part 32 u (last_digits w 6) (part_behind x 32 u (last_digits w 6) part) (spaced_digits w 6)
behind false w x u part = last_part 32 u (last_digits w 6) (part_peel x u (last_digits w 6) part) (spaced_digits w 6)

-- in a reading stand digits and spaces alone
abbrev Read : ℕ → Type 0
Read d = (d ≢ 13) × (d ≢ 63)

read_digits : (w n : ℕ) → Each Read (last_digits w n)
read_digits w zero = ((differ 32 13 refl, differ 32 63 refl), tt)
read_digits w (suc n) = ((other (head w (6 - n)), question (head w (6 - n))), read_digits w n)
  where
    other : (h : ℕ) → 48 + h % 8 ≢ 13
    other h e = omega arith

    question : (h : ℕ) → 48 + h % 8 ≢ 63
    question h e = omega arith

read_all : (space : Bool) (w : ℕ) → Each Read (if space then 32 ∷ last_digits w 6 else last_digits w 6)
read_all true w = ((differ 32 13 refl, differ 32 63 refl), read_digits w 6)
read_all false w = read_digits w 6

no_return : (space : Bool) (w x : ℕ) (u : List ℕ) → IsRemnant (x ∷ u) (if space then 32 ∷ last_digits w 6 else last_digits w 6) → Each (λ d. d ≢ 13) u
no_return space w x u part = returns_none u (each_part Read (x ∷ u) _ part (read_all space w)).1
  where
    returns_none : (u : List ℕ) → Each Read u → Each (λ d. d ≢ 13) u
    returns_none [] h = tt
    returns_none (x ∷ u) h = (h.0.0, returns_none u h.1)

no_question : (space : Bool) (w x : ℕ) (u : List ℕ) → IsRemnant (x ∷ u) (if space then 32 ∷ last_digits w 6 else last_digits w 6) → x ≢ 63
no_question space w x u part = (each_part Read (x ∷ u) _ part (read_all space w)).0.1

begun_part : (space : Bool) (w : ℕ) (u : List ℕ) → IsRemnant u (if space then 32 ∷ last_digits w 6 else last_digits w 6) → Begun u
begun_part space w [] part = tt
begun_part space w (x ∷ u) part = (inl (inl (behind space w x u part)), (λ _. no_return space w x u part), begun_part space w u (part_peel x u _ part))

few_left : (w x : ℕ) (u : List ℕ) → IsRemnant (x ∷ u) (last_digits w 6) → length u + 1 ≤ 7
few_left w x u part = let most = digits_length w 6 in omega (arith, part_length (x ∷ u) (last_digits w 6) part)

second : (space : Bool) (w x : ℕ) (u : List ℕ) (k c : ℕ) → IsRemnant (x ∷ u) (if space then 32 ∷ last_digits w 6 else last_digits w 6) → Due 1 (set u k c) ⊎ ((x ≡ 32) × (length (set u k c) ≤ 7))
second true w x u k c (inl h) = inr (h.0, let most = digits_length w 6 in omega (arith, length-set u k c, part_length u (last_digits w 6) h.1))
second true w x u k c (inr h) = inl (inr (let few = few_left w x u h in omega (arith, length-set u k c)))
second false w x u k c part = inl (inr (let few = few_left w x u part in omega (arith, length-set u k c)))

begun_set : (space : Bool) (w : ℕ) (u : List ℕ) → IsRemnant u (if space then 32 ∷ last_digits w 6 else last_digits w 6) → (k c : ℕ) → Begun (set u k c)
begun_set space w [] part zero c = tt
begun_set space w [] part (suc k) c = tt
begun_set space w (x ∷ u) part zero c = (inl (inl (behind space w x u part)), (λ _. no_return space w x u part), begun_part space w u (part_peel x u _ part))
begun_set space w (x ∷ u) part (suc k) c = (second space w x u k c part, (λ e. absurd (no_question space w x u part e)), begun_set space w u (part_peel x u _ part) k c)

-- a character of the refusal
abbrev pub Plain : ℕ → Type 0
Plain c = (c ≢ 32) × ((c < 48) ⊎ (49 < c))

plain_refusal : (two : Bool) → Each Plain (63 ∷ prompt_from two 0)
plain_refusal true = ((differ 63 32 refl, inr (omega arith)), ((differ 13 32 refl, inl (omega arith)), ((differ 13 32 refl, inl (omega arith)), ((differ 10 32 refl, inl (omega arith)), ((differ 64 32 refl, inr (omega arith)), tt)))))
plain_refusal false = ((differ 63 32 refl, inr (omega arith)), ((differ 13 32 refl, inl (omega arith)), ((differ 10 32 refl, inl (omega arith)), ((differ 64 32 refl, inr (omega arith)), tt))))

no_space : (u : List ℕ) → Each Plain u → Each (λ d. d ≢ 32) u
no_space [] h = tt
no_space (x ∷ u) h = (h.0.0, no_space u h.1)

refused_part : (u : List ℕ) → Each Plain u → Refused u
refused_part [] h = tt
refused_part (x ∷ u) h = (inl (no_space u h.1), refused_part u h.1)

refused_set : (u : List ℕ) → Each Plain u → (k c : ℕ) → Refused (set u k c)
refused_set [] h zero c = tt
refused_set [] h (suc k) c = tt
refused_set (x ∷ u) h zero c = (inl (no_space u h.1), refused_part u h.1)
refused_set (x ∷ u) h (suc k) c = (inr h.0, refused_set u h.1 k c)

slashed_part : (P : List ℕ → Type 0) (rest : List ℕ) → ((u : List ℕ) → IsRemnant u rest → P u) → (u : List ℕ) → IsRemnant u (47 ∷ rest) → Slashed P u
slashed_part P rest each [] part = tt
slashed_part P rest each (x ∷ u) part = (each u (part_behind x 47 u rest part), slashed_part P rest each u (part_peel x u (47 ∷ rest) part))

slashed_set : (P : List ℕ → Type 0) (rest : List ℕ) → ((u : List ℕ) → IsRemnant u rest → P u) → ((u : List ℕ) → IsRemnant u rest → (k c : ℕ) → P (set u k c)) → (u : List ℕ) → IsRemnant u (47 ∷ rest) → (k c : ℕ) → Slashed P (set u k c)
slashed_set P rest each changed [] part zero c = tt
slashed_set P rest each changed [] part (suc k) c = tt
slashed_set P rest each changed (x ∷ u) part zero c = (each u (part_behind x 47 u rest part), slashed_part P rest each u (part_peel x u (47 ∷ rest) part))
slashed_set P rest each changed (x ∷ u) part (suc k) c = (changed u (part_behind x 47 u rest part) k c, slashed_set P rest each changed u (part_peel x u (47 ∷ rest) part) k c)

-- ---- the prompt

record Closing (xs : List ℕ) : Type 0 where
  pub only : LastOnly 64 xs
  pub near : Near xs

closing_at : Closing (64 ∷ [])
closing_at = record { only = (λ e. refl, tt); near = (λ e. absurd (differ 64 10 refl e), tt) }

closing_lf : Closing (10 ∷ 64 ∷ [])
closing_lf = record { only = (λ e. absurd (differ 10 64 refl e), closing_at.only); near = (λ e. omega arith, closing_at.near) }

closing_more : (c : ℕ) (xs : List ℕ) → c ≢ 64 → c ≢ 10 → Closing xs → Closing (c ∷ xs)
closing_more c xs a b h = record { only = (λ e. absurd (a e), h.only); near = (λ e. absurd (b e), h.near) }

closing_cr : Closing (13 ∷ 10 ∷ 64 ∷ [])
closing_cr = closing_more 13 _ (differ 13 64 refl) (differ 13 10 refl) closing_lf

closing_two : Closing (13 ∷ 13 ∷ 10 ∷ 64 ∷ [])
closing_two = closing_more 13 _ (differ 13 64 refl) (differ 13 10 refl) closing_cr

closing_if : (b : Bool) (xs ys : List ℕ) → Closing xs → Closing ys → Closing (if b then xs else ys)
closing_if true xs ys f g = f
closing_if false xs ys f g = g

closing_prompt : (two : Bool) (i : ℕ) → Closing (prompt_from two i)
closing_prompt two i = closing_if (eqb i 0) _ _ (closing_if two _ _ closing_two closing_cr) (closing_if (eqb i 1) _ _ (closing_if two _ _ closing_cr closing_lf) (closing_if (eqb i 2) _ _ closing_lf closing_at))

closing_question : (two : Bool) → Closing (63 ∷ prompt_from two 0)
closing_question two = closing_more 63 _ (differ 63 64 refl) (differ 63 10 refl) (closing_prompt two 0)

-- the key that resynchronises is neither `@` nor LF
no_prompt : (careful : Bool) → resynchronise_of careful ≢ 64
no_prompt true e = omega arith
no_prompt false e = omega arith

no_feed : (careful : Bool) → resynchronise_of careful ≢ 10
no_feed true e = omega arith
no_feed false e = omega arith

closing_refusal : (careful : Bool) (s : Style) (k : ℕ) → Closing (refusal_from careful s k)
closing_refusal careful s k =
    closing_if (eqb k 0) _ _ (closing_if s.echo_illegal _ _ (closing_more (resynchronise_of careful) _ (no_prompt careful) (no_feed careful) (closing_question s.two_returns)) (closing_question s.two_returns))
    (closing_if (eqb k 1) _ _ (closing_question s.two_returns) (closing_prompt s.two_returns (k - 2)))

changed_tail : (up rest : List ℕ) → IsRemnant up rest → Closing rest → (k c : ℕ) → Tail (set up k c)
changed_tail up rest part h k c = tail_set up (last_part 64 up rest part h.only) (near_part up rest part h.near) k c

-- ---- phase by phase

echo_set : (x d c k : ℕ) (u : List ℕ) → IsRemnant (x ∷ u) (d ∷ []) → k < length (x ∷ u) → set (x ∷ u) k c ≡ c ∷ []
echo_set x d c zero [] part below = refl
echo_set x d c (suc k) [] part below = absurd (omega arith)
echo_set x d c k (y ∷ u) (inl h) below = absurd h.1
echo_set x d c k (y ∷ u) (inr h) below = absurd h

module _ (t : Site) (mode : Mode) (k c : ℕ) (care : t.careful ≡ true) where
  changed_echo : (phase : Phase) (d : ℕ) (up : List ℕ) → IsRemnant up (d ∷ []) → k < length up → Fine t mode phase (c ∷ []) → Fine t mode phase (set up k c)
  changed_echo phase d [] part below h = absurd (omega arith)
  changed_echo phase d (x ∷ u) part below h = subst (λ l. Fine t mode phase l) (sym (echo_set x d c k u part below)) h

  changed_sync : (up : List ℕ) → mode ≡ Prompt → (i : ℕ) → i ≤ 5 → IsRemnant up (refusal_from t.careful t.style i) → Fine t mode (Sync i) (set up k c)
  changed_sync up prompt i le part = elim (last_or i 5 le) [
    | inl less ↦ fine_sync t mode prompt (set up k c) (changed_tail up _ part (closing_refusal t.careful t.style i) k c) i less
    | inr same ↦ subst (λ j. Fine t mode (Sync j) (set up k c)) (sym same) (fine_sync_last t mode prompt (set up k c) (last_short 64 (set up k c)
        (let one = part_length up (64 ∷ []) (subst (λ j. IsRemnant up (refusal_from t.careful t.style j)) same part) in omega (arith, length-set up k c))))
  ]
    where
      last_or : (i n : ℕ) → i ≤ n → (i < n) ⊎ (i ≡ n)
      last_or i n h = grind arith

  changed_return : (why : Reason) → IsSure why t → (up : List ℕ) → mode ≡ Prompt → (i : ℕ) → i ≤ 3 → IsRemnant up (prompt_from t.style.two_returns i) → Fine t mode (Return why i) (set up k c)
  changed_return why sure up prompt i le part = elim (last_or i 3 le) [
    | inl less ↦ fine_return t mode why sure prompt (set up k c) (changed_tail up _ part (closing_prompt t.style.two_returns i) k c) i less
    | inr same ↦ subst (λ j. Fine t mode (Return why j) (set up k c)) (sym same) (fine_return_last t mode why sure prompt (set up k c) (last_short 64 (set up k c)
        (let one = part_length up (64 ∷ []) (subst (λ j. IsRemnant up (prompt_from t.style.two_returns j)) same part) in omega (arith, length-set up k c))))
  ]
    where
      last_or : (i n : ℕ) → i ≤ n → (i < n) ⊎ (i ≡ n)
      last_or i n h = grind arith

  reading_is : (b : Bool) → is_word t.memory t.word.address ≡ b → reading t ≡ (if b then (if t.style.space_before then 32 ∷ last_digits (held_number t) 6 else last_digits (held_number t) 6) else 63 ∷ prompt_from t.style.two_returns 0)
  reading_is b is = ap (λ v. if v then (if t.style.space_before then 32 ∷ last_digits (held_number t) 6 else last_digits (held_number t) 6) else 63 ∷ prompt_from t.style.two_returns 0) is

  opened_is : mode ≡ opened_mode t → Lies t → mode ≡ Opened t.word.address
  opened_is after lies = after ∙ ap (λ v. if v then Opened t.word.address else Prompt) lies

  changed_before : (visit : Visit) (up : List ℕ) → mode ≡ opened_mode t → IsRemnant up (reading t) → Fine t mode (Before visit) (set up k c)
  changed_before visit up after part =
      elim (is_word t.memory t.word.address) as (λ b. is_word t.memory t.word.address ≡ b → Fine t mode (Before visit) (set up k c)) [
        | true ↦ λ lies. fine_before t mode care (opened_is after lies) visit (set up k c) (begun_set t.style.space_before (held_number t) up (subst (IsRemnant up) (reading_is true lies) part) k c)
        | false ↦ λ past. fine_before_none t mode care past visit (set up k c) (refused_set up (each_part Plain up _ (subst (IsRemnant up) (reading_is false past) part) (plain_refusal t.style.two_returns)) k c)
      ] refl

  changed_slash : (visit : Visit) (up : List ℕ) → mode ≡ opened_mode t → IsRemnant up (47 ∷ reading t) → Fine t mode (Slash visit) (set up k c)
  changed_slash visit up after part =
      elim (is_word t.memory t.word.address) as (λ b. is_word t.memory t.word.address ≡ b → Fine t mode (Slash visit) (set up k c)) [
        | true ↦ λ lies. fine_slash t mode Begun visit (fine_before t mode care (opened_is after lies) visit) (set up k c)
            (slashed_set Begun _ (begun_part t.style.space_before (held_number t)) (begun_set t.style.space_before (held_number t)) up (subst (λ r. IsRemnant up (47 ∷ r)) (reading_is true lies) part) k c)
        | false ↦ λ past. fine_slash t mode Refused visit (fine_before_none t mode care past visit) (set up k c)
            (slashed_set Refused (63 ∷ prompt_from t.style.two_returns 0) (λ u p. refused_part u (each_part Plain u _ p (plain_refusal t.style.two_returns))) (λ u p i d. refused_set u (each_part Plain u _ p (plain_refusal t.style.two_returns)) i d) up
            (subst (λ r. IsRemnant up (47 ∷ r)) (reading_is false past) part) k c)
      ] refl

  changed_value : (visit : Visit) (v j : ℕ) (up : List ℕ) → mode ≡ opened_mode t → Lies t → j ≤ 6 → IsRemnant up (last_digits (held_number t) (6 - j)) → Fine t mode (Value visit v j) (set up k c)
  changed_value visit v j up after lies le part =
      fine_value t mode (opened_is after lies) visit (set up k c) v j (inr (let most = digits_length (held_number t) (6 - j) in omega (arith, length-set up k c, part_length up (last_digits (held_number t) (6 - j)) part)))

nothing_left : (up : List ℕ) (k : ℕ) → IsRemnant up [] → k < length up → ⊥
nothing_left [] k part below = omega arith
nothing_left (x ∷ up) k part below = part

pub changed_fine : (phase : Phase) (b : Basis) (t : Site) (mode : Mode) (k c : ℕ) (up : List ℕ) → t.careful ≡ true → PhaseFits phase b → k < length up → mode ≡ after_of phase t → IsRemnant up (rest_of phase t) → Facts false phase t up → Fine t mode phase (set up k c)
changed_fine Settle b t mode k c up care fits below after part facts = absurd (nothing_left up k part below)
changed_fine (Sync i) b t mode k c up care fits below after part facts = changed_sync t mode k c care up after i fits part
changed_fine (Address visit i) b t mode k c up care fits below after part facts = changed_echo t mode k c care (Address visit i) (digit_of t.word.address i) up part below (one_address t mode visit i c after)
changed_fine (Slash visit) b t mode k c up care fits below after part facts = changed_slash t mode k c care visit up after part
changed_fine (Before visit) b t mode k c up care fits below after part facts = changed_before t mode k c care visit up after part
changed_fine (Value visit v j) b t mode k c up care fits below after part facts = changed_value t mode k c care visit v j up after facts.1 fits.1 part
changed_fine (Deposit last x i) b t mode k c up care fits below after part facts = changed_echo t mode k c care (Deposit last x i) (digit_of x i) up part below (one_deposit t mode last x i c after)
changed_fine (Return (Store last x) i) b t mode k c up care fits below after part facts = changed_return t mode k c care (Store last x) tt up after i fits.1 part
changed_fine (Return (Reopen r) i) b t mode k c up care fits below after part facts = changed_return t mode k c care (Reopen r) tt up after i fits.1 part
changed_fine (Return (Missing a) i) b t mode k c up care fits below after part facts = fine_missing t mode facts a i (set up k c)
changed_fine (Return Close i) b t mode k c up care fits below after part facts = changed_return t mode k c care Close tt up after i fits part
changed_fine (Start i) b t mode k c up care fits below after part facts = changed_echo t mode k c care (Start i) (digit_of t.start i) up part below (one_start t mode i c after)
changed_fine Go b t mode k c up care fits below after part facts = fine_go t mode after (set up k c)
changed_fine (Ended end) b t mode k c up care fits below after part facts = absurd (nothing_left up k part below)
