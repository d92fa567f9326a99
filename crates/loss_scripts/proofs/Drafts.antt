-- What one more line of a script adds to what the lines before it name.
use Rattle.std.proofs.Common.{◌≡◌, ℕ, ◌+◌, ◌<◌, Bool, true, false, List, [], ◌∷◌, ◌++◌, length, take, get_or, Option, Some, None, MatchBool, not, arith, ap, sym, refl, ◌∙◌, append-nil, ◌⊎◌, ⊎_elim}
use Rattle.std.specs.Prelude.{filter_map, is_some, slice_get}
use Rattle.std.specs.List.{enumerate_from, cons_option}
use Rattle.std.proofs.lemmas.List.{length-append, take-append-le, take_at, get_or_append_left, get_or_at}
use Rattle.std.proofs.lemmas.List.Elements.{filter_map-append}
use Rattle.std.proofs.lemmas.Bool.{false≢true}
use Rattle.loss_scripts.specs.declared.line.ScriptLine.{ScriptLine}
use Rattle.loss_scripts.specs.declared.line.ScriptLine.TheVariants as line
use Rattle.loss_scripts.specs.declared.line.Setting.{Setting}
use Rattle.loss_scripts.specs.declared.script.Draft.{Draft}
use Rattle.loss_scripts.specs.Script.{first_in, words_in, style_in, patience_in, waiting_in, put_in, step_in, numbered, IsNew, MayCome, IsInOrder}
use Rattle.loss_scripts.specs.Draft.{HasNamed, Joins}

-- what was named stays, and else the next may name it
abbrev first_or : {A : Type 0} → Option A → Option A → Option A
first_or old None = old
first_or None (Some x) = Some x
first_or (Some y) (Some x) = Some y

-- a list, with one more where there is one
abbrev and_one : {A : Type 0} → List A → Option A → List A
and_one xs None = xs
and_one xs (Some x) = xs ++ x ∷ []

first_joined : {A : Type 0} (xs : List A) (o : Option A) → slice_get (xs ++ cons_option o []) 0 ≡ first_or (slice_get xs 0) o
first_joined [] None = refl
first_joined [] (Some x) = refl
first_joined (y ∷ xs) None = refl
first_joined (y ∷ xs) (Some x) = refl

one_joined : {A : Type 0} (xs : List A) (o : Option A) → xs ++ cons_option o [] ≡ and_one xs o
one_joined xs None = append-nil xs
one_joined xs (Some x) = refl

first_more : {A : Type 0} (named : ScriptLine → Option A) (before : List ScriptLine) (said : ScriptLine) → first_in named (before ++ said ∷ []) ≡ first_or (first_in named before) (named said)
first_more named before said = ap (λ xs. slice_get xs 0) (filter_map-append named before (said ∷ [])) ∙ first_joined (filter_map named before) (named said)

enumerate_more : {A : Type 0} (n : ℕ) (xs : List A) (x : A) → enumerate_from n (xs ++ x ∷ []) ≡ enumerate_from n xs ++ (n + length xs, x) ∷ []
enumerate_more n [] x = ap (λ m. (m, x) ∷ []) (omega arith)
enumerate_more n (y ∷ xs) x = ap (λ rest. (n, y) ∷ rest) (enumerate_more (n + 1) xs x ∙ ap (λ m. enumerate_from (n + 1) xs ++ (m, x) ∷ []) (omega arith))

listed_more : {A : Type 0} (kind : ℕ × ScriptLine → Option A) (before : List ScriptLine) (said : ScriptLine) (number : ℕ) → number ≡ length before + 1
    → filter_map kind (numbered (before ++ said ∷ [])) ≡ and_one (filter_map kind (numbered before)) (kind (number, said))
listed_more kind before said number is =
    ap (filter_map kind) (enumerate_more 1 before said ∙ ap (λ n. numbered before ++ (n, said) ∷ []) (omega (arith, is)))
    ∙ filter_map-append kind (numbered before) ((number, said) ∷ []) ∙ one_joined (filter_map kind (numbered before)) (kind (number, said))

-- a draft that takes what the next line names has what all the lines name
pub joined : (before : List ScriptLine) (said : ScriptLine) (number : ℕ) (old new : Draft) → number ≡ length before + 1 → HasNamed before old
    → new.words ≡ first_or old.words (words_in said) → new.style ≡ first_or old.style (style_in said)
    → new.patience ≡ first_or old.patience (patience_in said) → new.waiting ≡ first_or old.waiting (waiting_in said)
    → new.puts.items ≡ and_one old.puts.items (put_in (number, said)) → new.steps.items ≡ and_one old.steps.items (step_in (number, said))
    → HasNamed (before ++ said ∷ []) new
joined before said number old new is holds words style patience waiting puts steps = record {
  words = words ∙ ap (λ o. first_or o (words_in said)) holds.words ∙ sym (first_more words_in before said);
  style = style ∙ ap (λ o. first_or o (style_in said)) holds.style ∙ sym (first_more style_in before said);
  patience = patience ∙ ap (λ o. first_or o (patience_in said)) holds.patience ∙ sym (first_more patience_in before said);
  waiting = waiting ∙ ap (λ o. first_or o (waiting_in said)) holds.waiting ∙ sym (first_more waiting_in before said);
  puts = puts ∙ ap (λ xs. and_one xs (put_in (number, said))) holds.puts ∙ sym (listed_more put_in before said number is);
  steps = steps ∙ ap (λ xs. and_one xs (step_in (number, said))) holds.steps ∙ sym (listed_more step_in before said number is);
}

-- a test of what is still to be named
pub is_new : {A : Type 0} (o named : Option A) (test : Bool) → is_some o ≡ not test → o ≡ named → MatchBool test (named ≡ None) (named ≡ None → ⊥)
is_new None named true is same = sym same
is_new None named false is same = absurd (false≢true is)
is_new (Some x) named true is same = absurd (false≢true (sym is))
is_new (Some x) named false is same = λ none. absurd (let e : Some x ≡ None = same ∙ none in cc)

-- a setup line that comes before all event lines, by a test whether it is new
pub taken : (before : List ScriptLine) (setting : Setting) (old new : Draft) (test : Bool) → HasNamed before old → old.steps.items ≡ []
    → MatchBool test (IsNew before setting) (IsNew before setting → ⊥) → (IsNew before setting → HasNamed (before ++ line.Setting setting ∷ []) new)
    → MatchBool test (Joins before (line.Setting setting) new) (MayCome before (line.Setting setting) → ⊥)
taken before setting old new true holds none known next = ((sym holds.steps ∙ none, known), next known)
taken before setting old new false holds none known next = λ may. known may.1

-- what is still to be named takes the next name
pub named_first : {A : Type 0} (old named : Option A) (x : A) → old ≡ named → named ≡ None → Some x ≡ first_or old (Some x)
named_first None named x same none = refl
named_first (Some y) named x same none = absurd (let e : Some y ≡ None = same ∙ none in cc)

earlier : (before : List ScriptLine) (said : ScriptLine) (k : ℕ) (d : ScriptLine) → k < length before → MayCome (take k before) (get_or before k d) → MayCome (take k (before ++ said ∷ [])) (get_or (before ++ said ∷ []) k d)
earlier before said k d within may = rw (take-append-le k before (said ∷ []) (omega arith), get_or_append_left before (said ∷ []) d k within) may

last : (before : List ScriptLine) (said : ScriptLine) (k : ℕ) (d : ScriptLine) → k ≡ length before → MayCome before said → MayCome (take k (before ++ said ∷ [])) (get_or (before ++ said ∷ []) k d)
last before said k d at may = rw (take_at before (said ∷ []) k (sym at), get_or_at before said [] d k (sym at)) may

-- the lines stay in order with a next one that may come
pub order_more : (before : List ScriptLine) (said : ScriptLine) → IsInOrder before → MayCome before said → IsInOrder (before ++ said ∷ [])
order_more before said order may k d within =
    let where_it_is : (k < length before) ⊎ (k ≡ length before) = grind (arith, length-append before (said ∷ [])) in
    ⊎_elim (λ inside. earlier before said k d inside (order k d inside)) (λ at. last before said k d at may) where_it_is
