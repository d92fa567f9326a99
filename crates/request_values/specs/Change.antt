-- Something before a call and after it, as one value.
pub record Change (A : Type 0) : Type 0 where
  pub before : A
  pub after : A

infixl 3 ◌⇒◌
-- this became that
abbrev pub ◌⇒◌ : {A : Type 0} → A → A → Change A
before ⇒ after = record { before = before; after = after }
