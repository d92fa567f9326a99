-- One character.
use Rattle.std.proofs.Common.{◌≡◌, ℕ, ◌+◌, ◌-◌, ◌*◌, ◌<◌, Bool, true, false, if◌then◌else◌, List, [], ◌∷◌, ◌++◌, Option, Some, None, refl, arith, ap, sym, subst, ◌∙◌, append-nil}
use Rattle.std.specs.Prelude.{is_some}
use Rattle.std.proofs.lemmas.List.{append_cancel_left}
use Rattle.std.proofs.lemmas.Bool.Decides.{nat_tests}
use Rattle.odt_machine.specs.Machine.{Machine, IsWide}
use Rattle.exchange_core.specs.Chunk.{is_nibble}
use Rattle.exchange_law.specs.Station.{ChangesAt, IsHaltText, Answers, StubMeets, answer_text}
use Rattle.processor.specs.Access.{with_byte}
use Rattle.stub.specs.Filling.{Filling, taken, takes, with_nibble, spelled}
use Rattle.stub.proofs.Memory.{byte_other, wide_with, length_with}
use Rattle.stub.proofs.Numbers.{on_test}
use Rattle.stub.proofs.Points.{HighFits}
use Rattle.exchange_law.specs.StubStation.{station, station_by, goodbye}

-- what is so of the stub as the host knows it
pub record Fine (f : Filling) : Type 0 where
  pub wide : IsWide f.memory
  pub high : HighFits f.high

-- ---- the stub stays fine

byte_small : (h n : ℕ) → h < 16 → n < 16 → 16 * h + n < 256
byte_small h n high low = omega arith

low_nibble : (c : ℕ) → is_nibble c ≡ true → c - 96 < 16
low_nibble c e = grind (arith, nat_tests)

fine_nibble : (f : Filling) (n a : ℕ) (rest : List ℕ) (high : Option ℕ) → n < 16 → HighFits high → IsWide f.memory → Fine (with_nibble f high n a rest)
fine_nibble f n a rest None small fits wide = record { wide = wide; high = small }
fine_nibble f n a rest (Some h) small fits wide = record { wide = wide_with f.memory a (16 * h + n) wide (byte_small h n fits small); high = tt }

pub fine_taken : (f : Filling) (c a : ℕ) (rest : List ℕ) → f.left ≡ a ∷ rest → Fine f → Fine (taken f c)
fine_taken f c a rest is k = subst (λ l. Fine (takes f l c)) (sym is) (
    on_test (λ t. Fine (if t then with_nibble f f.high (c - 96) a rest else record f { left = [] })) (is_nibble c)
    (λ e. fine_nibble f (c - 96) a rest f.high (low_nibble c e) k.high k.wide)
    (λ e. record { wide = k.wide; high = k.high }))

-- ---- what it does with a character is what a stub may do

-- nothing was answered
no_text : (answers text : List ℕ) → answers ≡ answers ++ text → text ≡ []
no_text answers text e = sym (append_cancel_left answers [] text (append-nil answers ∙ e))

-- the stub behind a byte
abbrev pub stored_in : Filling → List ℕ → ℕ → List ℕ → Filling
stored_in f memory a rest = record { memory = memory; left = rest; high = None; answers = f.answers ++ spelled memory a }

module _ (m : Machine) (farewell : List ℕ) (good : IsHaltText farewell) where
  -- what a stub may do at a character, by what the station and the answer then are
  abbrev pub MayDo : Filling → ℕ → List ℕ → ℕ → Filling → List ℕ → Type 0
  MayDo f a rest c g text = StubMeets (is_nibble c) (record m { memory = f.memory }) (a ∷ rest) (is_some f.high) (station m g) (text ++ goodbye g.left farewell)

  -- a byte is answered, and the next one follows, or the halt
  answering : (f : Filling) (memory : List ℕ) (a : ℕ) (rest text : List ℕ) → text ≡ answer_text memory a →
      Answers (record m { memory = f.memory }) memory (answer_text memory a) rest (station_by m (stored_in f memory a rest) rest) (text ++ goodbye rest farewell)
  answering f memory a [] text says = (refl, (farewell, good, ap (λ l. l ++ farewell) says))
  answering f memory a (next ∷ rest) text says = (refl, append-nil text ∙ says)

  changes : (memory : List ℕ) (a v : ℕ) → IsWide memory → v < 256 → ChangesAt a memory (with_byte memory a v)
  changes memory a v wide small = record {
    size = length_with memory a v;
    wide = λ w. wide_with memory a v w small;
    bytes = λ b apart. byte_other memory a v b wide small apart;
  }

  nibble_may : (f : Filling) (a : ℕ) (rest : List ℕ) (n : ℕ) (text : List ℕ) (high : Option ℕ) → f.high ≡ high → n < 16 → HighFits high → IsWide f.memory → f.left ≡ a ∷ rest →
      (with_nibble f high n a rest).answers ≡ f.answers ++ text →
      StubMeets true (record m { memory = f.memory }) (a ∷ rest) (is_some high) (station m (with_nibble f high n a rest)) (text ++ goodbye (with_nibble f high n a rest).left farewell)
  nibble_may f a rest n text None is small fits wide left answers = (
    ap (λ l. station_by m (record f { high = Some n }) l) left,
    ap (λ l. text ++ goodbye l farewell) left ∙ (append-nil text ∙ no_text f.answers text answers),
  )
  nibble_may f a rest n text (Some h) is small fits wide left answers =
      let memory : List ℕ = with_byte f.memory a (16 * h + n) in
      (memory, changes f.memory a (16 * h + n) wide (byte_small h n fits small), answering f memory a rest text (sym (append_cancel_left f.answers (spelled memory a) text answers)))

  pub may_do : (f : Filling) (a : ℕ) (rest : List ℕ) (c : ℕ) (text : List ℕ) → f.left ≡ a ∷ rest → Fine f → (taken f c).answers ≡ f.answers ++ text → MayDo f a rest c (taken f c) text
  may_do f a rest c text is k answers =
      subst (λ l. MayDo f a rest c (takes f l c) text) (sym is) (by_test (is_nibble c) refl (ap (λ l. (takes f l c).answers) (sym is) ∙ answers))
    where
      by_test : (t : Bool) → is_nibble c ≡ t → (if is_nibble c then with_nibble f f.high (c - 96) a rest else record f { left = [] }).answers ≡ f.answers ++ text →
          StubMeets (is_nibble c) (record m { memory = f.memory }) (a ∷ rest) (is_some f.high) (station m (if is_nibble c then with_nibble f f.high (c - 96) a rest else record f { left = [] }))
          (text ++ goodbye (if is_nibble c then with_nibble f f.high (c - 96) a rest else record f { left = [] }).left farewell)
      by_test true e answers =
          subst (λ t. StubMeets t (record m { memory = f.memory }) (a ∷ rest) (is_some f.high) (station m (if t then with_nibble f f.high (c - 96) a rest else record f { left = [] }))
          (text ++ goodbye (if t then with_nibble f f.high (c - 96) a rest else record f { left = [] }).left farewell)) (sym e)
          (nibble_may f a rest (c - 96) text f.high refl (low_nibble c e) k.high k.wide is
          (ap (λ t. (if t then with_nibble f f.high (c - 96) a rest else record f { left = [] }).answers) (sym e) ∙ answers))
      by_test false e answers =
          subst (λ t. StubMeets t (record m { memory = f.memory }) (a ∷ rest) (is_some f.high) (station m (if t then with_nibble f f.high (c - 96) a rest else record f { left = [] }))
          (text ++ goodbye (if t then with_nibble f f.high (c - 96) a rest else record f { left = [] }).left farewell)) (sym e)
          (refl, subst (λ l. IsHaltText (l ++ farewell)) (sym (no_text f.answers text (ap (λ t. (if t then with_nibble f f.high (c - 96) a rest else record f { left = [] }).answers) (sym e) ∙ answers))) good)
