-- What the console answers to a key, whatever it is in the middle of: how long it is, and which of its characters come last.
use Rattle.std.proofs.Common.{◌≡◌, ℕ, zero, suc, ◌%◌, ◌≤◌, Bool, true, false, ◌==◌, List, [], ◌∷◌, length, drop, refl, arith, sym, subst, lit≤}
use Rattle.std.proofs.lemmas.Bool.Decides.{nat_tests}
use Rattle.std.specs.Prelude.{if◌then◌else◌}
use Rattle.std.specs.List.{remove}
use Rattle.octal.specs.Octal.{digit_of, is_digit}
use Rattle.odt_machine.specs.declared.style.Style.{Style}
use Rattle.odt_machine.specs.declared.mode.Mode.{Mode}
use Rattle.odt_machine.specs.declared.mode.Mode.TheVariants.{Prompt, Number, Opened, Typing, Running}
use Rattle.odt_machine.specs.declared.key.Key.{Key}
use Rattle.odt_machine.specs.declared.key.Key.TheVariants.{Digit, Return, Slash, Go, Other}
use Rattle.odt_machine.specs.Answer.{illegal_text, prompt_text, refused_text, word_text}
use Rattle.odt_machine.specs.Key.{key_of}
use Rattle.odt_machine.specs.KeyTable.{Taken, row, take_of}
use Rattle.odt_machine.specs.Machine.{Machine, is_word, word_at}
use Rattle.host_core.proofs.Frame.{on_test}

-- ---- how long

prompt_short : (s : Style) → length (prompt_text s) ≤ 4
prompt_short s = on_test (λ v. length (if v then 13 ∷ 13 ∷ 10 ∷ 64 ∷ [] else 13 ∷ 10 ∷ 64 ∷ []) ≤ 4) s.two_returns (λ _. lit≤ tt) (λ _. lit≤ tt)

illegal_short : (s : Style) (c : ℕ) → length (illegal_text s c) ≤ 9
illegal_short s c =
    on_test (λ v. length (if v then c ∷ 63 ∷ prompt_text s else 63 ∷ prompt_text s) ≤ 9) s.echo_illegal (λ _. omega (arith, prompt_short s)) (λ _. omega (arith, prompt_short s))

word_short : (s : Style) (c word : ℕ) → length (c ∷ word_text s word) ≤ 9
word_short s c word = on_space s.space_before
  where
    text : List ℕ
    text = digit_of word 1 ∷ digit_of word 2 ∷ digit_of word 3 ∷ digit_of word 4 ∷ digit_of word 5 ∷ digit_of word 6 ∷ 32 ∷ []

    on_space : (v : Bool) → length (c ∷ (if v then 32 ∷ text else text)) ≤ 9
    on_space true = lit≤ tt
    on_space false = lit≤ tt

choice_short : (test : Bool) (x y : Taken) → length x.answer ≤ 9 → length y.answer ≤ 9 → length (if test then x else y).answer ≤ 9
choice_short true x y one other = one
choice_short false x y one other = other

row_short : (s : Style) (memory : List ℕ) (mode : Mode) (key : Key) (c : ℕ) → length (row s memory mode key c).answer ≤ 9
row_short s memory Prompt Digit c = lit≤ tt
row_short s memory Prompt Return c = omega (arith, prompt_short s)
row_short s memory Prompt Slash c = illegal_short s c
row_short s memory Prompt Go c = illegal_short s c
row_short s memory Prompt Other c = illegal_short s c
row_short s memory (Number v n) Digit c = lit≤ tt
row_short s memory (Number v n) Slash c = choice_short (is_word memory v) _ _ (word_short s c (word_at memory v)) (omega (arith, prompt_short s))
row_short s memory (Number v n) Go c = choice_short (v % 2 == 0) _ _ (lit≤ tt) (omega (arith, prompt_short s))
row_short s memory (Number v n) Return c = omega (arith, prompt_short s)
row_short s memory (Number v n) Other c = illegal_short s c
row_short s memory (Opened a) Digit c = lit≤ tt
row_short s memory (Opened a) Return c = omega (arith, prompt_short s)
row_short s memory (Opened a) Slash c = illegal_short s c
row_short s memory (Opened a) Go c = illegal_short s c
row_short s memory (Opened a) Other c = illegal_short s c
row_short s memory (Typing a v n) Digit c = lit≤ tt
row_short s memory (Typing a v n) Return c = omega (arith, prompt_short s)
row_short s memory (Typing a v n) Slash c = illegal_short s c
row_short s memory (Typing a v n) Go c = illegal_short s c
row_short s memory (Typing a v n) Other c = illegal_short s c
row_short s memory (Running p) key c = lit≤ tt

pub answer_short : (m : Machine) (c : ℕ) → length (take_of m c).answer ≤ 9
answer_short m c = row_short m.style m.memory m.mode (key_of c) c

-- ---- which character comes last

-- where a character is the one, nothing stands behind it
abbrev pub Alone : Bool → List ℕ → Type 0
Alone true rest = rest ≡ []
Alone false rest = Unit {0}

-- nothing stands behind this character, wherever it stands
abbrev pub EndsAt : ℕ → List ℕ → Type 0
EndsAt e [] = Unit {0}
EndsAt e (c ∷ rest) = Alone (c == e) rest × EndsAt e rest

alone_last : (test : Bool) → Alone test []
alone_last true = refl
alone_last false = tt

pub none_removed : (xs : List ℕ) (k : ℕ) → xs ≡ [] → remove xs k ≡ []
none_removed [] zero none = refl
none_removed [] (suc k) none = refl
none_removed (c ∷ xs) k none = absurd (cc none)

alone_removed : (test : Bool) (rest : List ℕ) (k : ℕ) → Alone test rest → Alone test (remove rest k)
alone_removed true rest k alone = none_removed rest k alone
alone_removed false rest k alone = tt

pub ends_removed : (e : ℕ) (xs : List ℕ) (k : ℕ) → EndsAt e xs → EndsAt e (remove xs k)
ends_removed e [] zero h = tt
ends_removed e [] (suc k) h = tt
ends_removed e (c ∷ xs) zero h = h.1
ends_removed e (c ∷ xs) (suc k) h = (alone_removed (c == e) xs k h.0, ends_removed e xs k h.1)

ends_drop : (e n : ℕ) (xs : List ℕ) → EndsAt e (drop n xs) → EndsAt e (drop (suc n) xs)
ends_drop e zero [] h = tt
ends_drop e zero (c ∷ xs) h = h.1
ends_drop e (suc n) [] h = tt
ends_drop e (suc n) (c ∷ xs) h = ends_drop e n xs h

pub ends_behind : (e n : ℕ) (xs : List ℕ) (k : ℕ) → EndsAt e (drop n xs) → EndsAt e (drop n (remove xs k))
ends_behind e zero xs k h = ends_removed e xs k h
ends_behind e (suc n) [] zero h = tt
ends_behind e (suc n) [] (suc k) h = tt
ends_behind e (suc n) (c ∷ xs) zero h = ends_drop e n xs h
ends_behind e (suc n) (c ∷ xs) (suc k) h = ends_behind e n xs k h

-- ---- the last characters of the answers to a trial's keys

digit_key : (test : Bool) (key : Key) → test ≡ true → (if test then Digit else key) ≡ Digit
digit_key true key is = refl
digit_key false key is = absurd (cc is)

row_digit : (s : Style) (memory : List ℕ) (mode : Mode) (c e : ℕ) → EndsAt e (row s memory mode Digit c).answer
row_digit s memory Prompt c e = (alone_last (c == e), tt)
row_digit s memory (Number v n) c e = (alone_last (c == e), tt)
row_digit s memory (Opened a) c e = (alone_last (c == e), tt)
row_digit s memory (Typing a v n) c e = (alone_last (c == e), tt)
row_digit s memory (Running p) c e = tt

-- a digit has no answer but its echo
pub digit_ends : (m : Machine) (c e : ℕ) → is_digit c ≡ true → EndsAt e (take_of m c).answer
digit_ends m c e digit = subst (λ key. EndsAt e (row m.style m.memory m.mode key c).answer) (sym (digit_key (is_digit c) _ digit)) (row_digit m.style m.memory m.mode c e)

illegal_ends : (echo two : Bool) → EndsAt 64 (illegal_text (record { space_before = false; two_returns = two; echo_illegal = echo }) 90)
illegal_ends true true = (tt, (tt, (tt, (tt, (tt, (refl, tt))))))
illegal_ends true false = (tt, (tt, (tt, (tt, (refl, tt)))))
illegal_ends false true = (tt, (tt, (tt, (tt, (refl, tt)))))
illegal_ends false false = (tt, (tt, (tt, (refl, tt))))

row_resync : (s : Style) (memory : List ℕ) (mode : Mode) → EndsAt 64 (row s memory mode Other 90).answer
row_resync s memory Prompt = illegal_ends s.echo_illegal s.two_returns
row_resync s memory (Number v n) = illegal_ends s.echo_illegal s.two_returns
row_resync s memory (Opened a) = illegal_ends s.echo_illegal s.two_returns
row_resync s memory (Typing a v n) = illegal_ends s.echo_illegal s.two_returns
row_resync s memory (Running p) = tt

-- the answer to `Z` has its prompt at the end
pub resync_ends : (m : Machine) → EndsAt 64 (take_of m 90).answer
resync_ends m = row_resync m.style m.memory m.mode

no_space : (w k : ℕ) → (digit_of w k == 32) ≡ false
no_space w k = grind (arith, nat_tests)

digit_alone : (w k : ℕ) (rest : List ℕ) → Alone (digit_of w k == 32) rest
digit_alone w k rest = subst (λ test. Alone test rest) (sym (no_space w k)) tt

illegal_spaceless : (echo two : Bool) → EndsAt 32 (drop 2 (illegal_text (record { space_before = false; two_returns = two; echo_illegal = echo }) 47))
illegal_spaceless true true = (tt, (tt, (tt, (tt, tt))))
illegal_spaceless true false = (tt, (tt, (tt, tt)))
illegal_spaceless false true = (tt, (tt, (tt, tt)))
illegal_spaceless false false = (tt, (tt, tt))

refused_spaceless : (two : Bool) → EndsAt 32 (drop 2 (refused_text (record { space_before = false; two_returns = two; echo_illegal = false }) 47))
refused_spaceless true = (tt, (tt, (tt, (tt, tt))))
refused_spaceless false = (tt, (tt, (tt, tt)))

word_ends : (space : Bool) (w : ℕ) → EndsAt 32 (drop 2 (47 ∷ word_text (record { space_before = space; two_returns = false; echo_illegal = false }) w))
word_ends true w = (digit_alone w 1 _, (digit_alone w 2 _, (digit_alone w 3 _, (digit_alone w 4 _, (digit_alone w 5 _, (digit_alone w 6 _, (refl, tt)))))))
word_ends false w = (digit_alone w 2 _, (digit_alone w 3 _, (digit_alone w 4 _, (digit_alone w 5 _, (digit_alone w 6 _, (refl, tt))))))

choice_ends : (test : Bool) (x y : Taken) → EndsAt 32 (drop 2 x.answer) → EndsAt 32 (drop 2 y.answer) → EndsAt 32 (drop 2 (if test then x else y).answer)
choice_ends true x y one other = one
choice_ends false x y one other = other

row_slash : (s : Style) (memory : List ℕ) (mode : Mode) → EndsAt 32 (drop 2 (row s memory mode Slash 47).answer)
row_slash s memory Prompt = illegal_spaceless s.echo_illegal s.two_returns
row_slash s memory (Number v n) = choice_ends (is_word memory v) _ _ (word_ends s.space_before (word_at memory v)) (refused_spaceless s.two_returns)
row_slash s memory (Opened a) = illegal_spaceless s.echo_illegal s.two_returns
row_slash s memory (Typing a v n) = illegal_spaceless s.echo_illegal s.two_returns
row_slash s memory (Running p) = tt

-- behind the first two characters of the answer to `/` a space is the last
pub slash_ends : (m : Machine) → EndsAt 32 (drop 2 (take_of m 47).answer)
slash_ends m = row_slash m.style m.memory m.mode
