-- Which digits a trial types into the open word (this project's choice).
use Rattle.std.specs.Prelude.{ℕ, ◌/◌, ◌≢◌, ◌==◌, ◌||◌, if◌then◌else◌}

-- 123, or 321 where the word holds what 1, 12 or 123 would make of it
abbrev pub digits_for : ℕ → ℕ
digits_for old = if old == 0o1 || old == 0o12 || old == 0o123 then 0o321 else 0o123

-- three digits tell a console that stores them from one that forgets: the first, the first two and all three of them are
-- other numbers than the word holds
pub record TellsApart (old digits : ℕ) : Type 0 where
  pub one : digits / 0o100 ≢ old
  pub two : digits / 0o10 ≢ old
  pub three : digits ≢ old
