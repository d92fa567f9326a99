-- Steps of a line one after another, beside characters that are sent behind them, and with losses that were there before: over any line.
use Rattle.std.proofs.Common.{◌≡◌, ℕ, zero, suc, ◌+◌, List, [], ◌∷◌, ◌++◌, length, Option, Some, None, inl, inr, refl, arith, ap, sym, subst, ◌∙◌, append-nil, length-append}
use Rattle.std.specs.Prelude.{option_to_list}
use Rattle.std.specs.List.{remove}
use Rattle.std.proofs.lemmas.List.Edits.{remove-append_left}
use Rattle.host_core.specs.declared.heard.Heard.{Heard}
use Rattle.host_core.specs.declared.heard.Heard.TheVariants.{Got, Quiet}
use Rattle.line_world.specs.Wire.{Line, Any, Moving, Times, sent}
use Rattle.host_devices.specs.declared.item.Item.{Item}
use Rattle.host_devices.specs.declared.item.Item.TheVariants.{Sent, Heard as Came}
use Rattle.host_devices.specs.Dialogue.{said}
use Rattle.honest_line.specs.Moves.{Gives, Passing}

-- ---- any steps

pub none_any : {M : Type 0} (Step : Line M → Line M → Type 0) (x : Line M) → Any Step x x
none_any Step x = (zero, refl)

pub one_any : {M : Type 0} (Step : Line M → Line M → Type 0) (x z y : Line M) → Step x z → Any Step z y → Any Step x y
one_any Step x z y step more = (suc more.0, (z, step, more.1))

times_then : {M : Type 0} (Step : Line M → Line M → Type 0) (n : ℕ) (x y z : Line M) → Times Step n x y → Any Step y z → Any Step x z
times_then Step zero x y z same more = subst (λ w. Any Step w z) same more
times_then Step (suc n) x y z (w, step, rest) more = one_any Step x w z step (times_then Step n w y z rest more)

pub any_then : {M : Type 0} (Step : Line M → Line M → Type 0) (x y z : Line M) → Any Step x y → Any Step y z → Any Step x z
any_then Step x y z first more = times_then Step first.0 x y z first.1 more

-- a view of the line that steps leave alone
abbrev pub Carries : {M : Type 0} → (Line M → Line M → Type 0) → (Line M → Line M) → Type 0
Carries {M} Step f = (x y : Line M) → Step x y → Step (f x) (f y)

times_carried : {M : Type 0} (Step : Line M → Line M → Type 0) (f : Line M → Line M) → Carries Step f → (n : ℕ) (x y : Line M) → Times Step n x y → Times Step n (f x) (f y)
times_carried Step f carries zero x y same = ap f same
times_carried Step f carries (suc n) x y (z, step, rest) = (f z, carries x z step, times_carried Step f carries n z y rest)

pub any_carried : {M : Type 0} (Step : Line M → Line M → Type 0) (f : Line M → Line M) → Carries Step f → (x y : Line M) → Any Step x y → Any Step (f x) (f y)
any_carried Step f carries x y steps = (steps.0, times_carried Step f carries steps.0 x y steps.1)

-- ---- characters behind what is under way

-- steps go on beside characters that are sent
abbrev pub GoBeside : {M : Type 0} → (Line M → Line M → Type 0) → Type 0
GoBeside {M} Step = (keys : List ℕ) → Carries Step (λ (x : Line M). sent x keys)

-- where the machine takes characters beside those that are sent, so do the line's moves
pub moving_beside : {M : Type 0} (Takes : Line M → Line M → Type 0) → GoBeside Takes → GoBeside (Moving Takes)
moving_beside Takes beside keys x y (inl takes) = inl (beside keys x y takes)
moving_beside Takes beside keys x y (inr (inl (k, below, now))) =
    inr (inl (k, simp length-append (omega arith), ap (λ z. sent z keys) now ∙ ap (λ (down : List ℕ). record x { down = down; lost = x.lost + 1 }) (sym (remove-append_left x.down keys k below))))
moving_beside Takes beside keys x y (inr (inr (k, below, now))) = inr (inr (k, below, ap (λ z. sent z keys) now))

-- steps may stand before the list
pub any_first : {M : Type 0} (Step : Line M → Line M → Type 0) → GoBeside Step → (items : List Item) (x y z : Line M) → Any Step x y → Passing Step y items z → Passing Step x items z
any_first Step beside [] x y z steps passes = any_then Step x y z steps passes
any_first Step beside (Sent key ∷ items) x y z steps passes =
    any_first Step beside items (sent x (key ∷ [])) (sent y (key ∷ [])) z (any_carried Step (λ w. sent w (key ∷ [])) (beside (key ∷ [])) x y steps) passes
any_first Step beside (Came what ∷ items) x y z steps (v, w, before, gives, passes) = (v, w, any_then Step x y v steps before, gives, passes)

pub passing_then : {M : Type 0} (Step : Line M → Line M → Type 0) → GoBeside Step → (items more : List Item) (x y z : Line M) → Passing Step x items y → Passing Step y more z → Passing Step x (items ++ more) z
passing_then Step beside [] more x y z steps passes = any_first Step beside more x y z steps passes
passing_then Step beside (Sent key ∷ items) more x y z first passes = passing_then Step beside items more (sent x (key ∷ [])) y z first passes
passing_then Step beside (Came what ∷ items) more x y z (v, w, before, gives, first) passes = (v, w, before, gives, passing_then Step beside items more w y z first passes)

pub passing_split : {M : Type 0} (Step : Line M → Line M → Type 0) (items more : List Item) (x y : Line M) → Passing Step x (items ++ more) y → (z : Line M) × Passing Step x items z × Passing Step z more y
passing_split Step [] more x y passes = (x, none_any Step x, passes)
passing_split Step (Sent key ∷ items) more x y passes = passing_split Step items more (sent x (key ∷ [])) y passes
passing_split Step (Came what ∷ items) more x y (w, v, before, gives, passes) =
    let rest = passing_split Step items more v y passes in
    (rest.0, (w, v, before, gives, rest.1), rest.2)

-- a list that begins with what a host said, if it said anything
pub passing_said : {M : Type 0} (Step : Line M → Line M → Type 0) (key : Option ℕ) (items : List Item) (x y : Line M) → Passing Step x (said key ++ items) y → Passing Step (sent x (option_to_list key)) items y
passing_said Step None items x y passes = subst (λ down. Passing Step (record x { down = down }) items y) (sym (append-nil x.down)) passes
passing_said Step (Some key) items x y passes = passes

-- ---- losses that were there before

-- so many more are lost
abbrev pub later : {M : Type 0} → ℕ → Line M → Line M
later k x = record x { lost = k + x.lost }

one_later : (k n : ℕ) → k + (n + 1) ≡ k + n + 1
one_later k n = omega arith

pub moving_later : {M : Type 0} (Takes : Line M → Line M → Type 0) (k : ℕ) → Carries Takes (later k) → Carries (Moving Takes) (later k)
moving_later Takes k carries x y (inl takes) = inl (carries x y takes)
moving_later Takes k carries x y (inr (inl (i, below, now))) = inr (inl (i, below, ap (later k) now ∙ ap (λ n. record x { down = remove x.down i; lost = n }) (one_later k x.lost)))
moving_later Takes k carries x y (inr (inr (i, below, now))) = inr (inr (i, below, ap (later k) now ∙ ap (λ n. record x { up = remove x.up i; lost = n }) (one_later k x.lost)))

gives_later : {M : Type 0} (k : ℕ) (what : Heard) (x y : Line M) → Gives x what y → Gives (later k x) what (later k y)
gives_later k (Got c) x y (rest, is, now) = (rest, is, ap (later k) now)
gives_later k Quiet x y (none, empty, now) = (none, empty, ap (later k) now)

pub passing_later : {M : Type 0} (Step : Line M → Line M → Type 0) (k : ℕ) → Carries Step (later k) → (items : List Item) (x y : Line M) → Passing Step x items y → Passing Step (later k x) items (later k y)
passing_later Step k carries [] x y steps = any_carried Step (later k) carries x y steps
passing_later Step k carries (Sent key ∷ items) x y passes = passing_later Step k carries items (sent x (key ∷ [])) y passes
passing_later Step k carries (Came what ∷ items) x y (z, v, before, gives, passes) =
    (later k z, later k v, any_carried Step (later k) carries x z before, gives_later k what z v gives, passing_later Step k carries items v y passes)

-- ---- a character that was not sent

-- behind all that is under way the character is sent and lost at once
remove_last : (xs : List ℕ) (key : ℕ) → remove (xs ++ key ∷ []) (length xs) ≡ xs
remove_last [] key = refl
remove_last (x ∷ xs) key = ap (λ ys. x ∷ ys) (remove_last xs key)

lost_at_once : {M : Type 0} (Takes : Line M → Line M → Type 0) (key : ℕ) (x : Line M) → Moving Takes (sent x (key ∷ [])) (later 1 x)
lost_at_once Takes key x = inr (inl (length x.down, simp length-append (omega arith), both (sym (remove_last x.down key)) (omega arith)))
  where
    both : {down : List ℕ} {lost : ℕ} → x.down ≡ down → 1 + x.lost ≡ lost → later 1 x ≡ record x { down = down; lost = lost }
    both a b = cc

-- a list that passed, and a character that the line lost: one loss more
pub passing_lost : {M : Type 0} (Takes : Line M → Line M → Type 0) → GoBeside Takes → (items : List Item) (key : ℕ) (x y : Line M) → Passing (Moving Takes) x items y → Passing (Moving Takes) x (items ++ Sent key ∷ []) (later 1 y)
passing_lost Takes beside items key x y passes =
    passing_then (Moving Takes) (moving_beside Takes beside) items (Sent key ∷ []) x y (later 1 y) passes (suc zero, (later 1 y, lost_at_once Takes key y, refl))
