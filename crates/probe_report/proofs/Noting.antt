-- What is noted of one thing more.
use Rattle.std.proofs.Common.{◌≡◌, ℕ, Bool, true, false, ◌&&◌, ◌||◌, ◌==◌, List, [], ◌∷◌, ◌++◌, Option, Some, None, refl, ap, sym, ◌∙◌, append-nil}
use Rattle.host_core.specs.declared.heard.Heard.TheVariants.{Got, Quiet}
use Rattle.host_devices.specs.declared.item.Item.{Item}
use Rattle.host_devices.specs.declared.item.Item.TheVariants.{Sent, Heard as Came}
use Rattle.probe_report.specs.Notes.{Noted, heard_characters, echoes, has_prompt, last_of, notes_of, only_echoes, tail_length, typed_last}

-- ---- lists that are joined

heard_characters-append : (xs ys : List Item) → heard_characters (xs ++ ys) ≡ heard_characters xs ++ heard_characters ys
heard_characters-append [] ys = refl
heard_characters-append (Sent key ∷ xs) ys = heard_characters-append xs ys
heard_characters-append (Came (Got c) ∷ xs) ys = ap (λ (cs : List ℕ). c ∷ cs) (heard_characters-append xs ys)
heard_characters-append (Came Quiet ∷ xs) ys = heard_characters-append xs ys

typed_last-append : (last : Option ℕ) (xs ys : List Item) → typed_last last (xs ++ ys) ≡ typed_last (typed_last last xs) ys
typed_last-append last [] ys = refl
typed_last-append last (Sent key ∷ xs) ys = typed_last-append (Some key) xs ys
typed_last-append last (Came heard ∷ xs) ys = typed_last-append last xs ys

and_assoc : (a b c : Bool) → ((a && b) && c) ≡ (a && (b && c))
and_assoc true b c = refl
and_assoc false b c = refl

or_assoc : (a b c : Bool) → ((a || b) || c) ≡ (a || (b || c))
or_assoc true b c = refl
or_assoc false b c = refl

and_true : (a : Bool) → (a && true) ≡ a
and_true true = refl
and_true false = refl

or_false : (a : Bool) → (a || false) ≡ a
or_false true = refl
or_false false = refl

only_echoes-append : (last : Option ℕ) (xs ys : List Item) → only_echoes last (xs ++ ys) ≡ (only_echoes last xs && only_echoes (typed_last last xs) ys)
only_echoes-append last [] ys = refl
only_echoes-append last (Sent key ∷ xs) ys = only_echoes-append (Some key) xs ys
only_echoes-append last (Came (Got c) ∷ xs) ys = ap (λ (b : Bool). echoes last c && b) (only_echoes-append last xs ys) ∙ sym (and_assoc (echoes last c) _ _)
only_echoes-append last (Came Quiet ∷ xs) ys = only_echoes-append last xs ys

has_prompt-append : (xs ys : List ℕ) → has_prompt (xs ++ ys) ≡ (has_prompt xs || has_prompt ys)
has_prompt-append [] ys = refl
has_prompt-append (c ∷ xs) ys = ap (λ (b : Bool). (c == 64) || b) (has_prompt-append xs ys) ∙ sym (or_assoc (c == 64) _ _)

-- ---- one thing more

abbrev noted_of : Bool → Bool → Option ℕ → List ℕ → Noted
noted_of prompt echo key tail = record { prompt = prompt; only_echoes = echo; last_key = key; tail = tail }

noted_by : (a b : Noted) → a.prompt ≡ b.prompt → a.only_echoes ≡ b.only_echoes → a.last_key ≡ b.last_key → a.tail ≡ b.tail → a ≡ b
noted_by a b prompt echo key tail =
    ap (λ x. noted_of x a.only_echoes a.last_key a.tail) prompt
    ∙ (ap (λ x. noted_of b.prompt x a.last_key a.tail) echo
    ∙ (ap (λ x. noted_of b.prompt b.only_echoes x a.tail) key ∙ ap (noted_of b.prompt b.only_echoes b.last_key) tail))

pub noted_sent : (items : List Item) (key : ℕ) → record (notes_of items) { last_key = Some key } ≡ notes_of (items ++ Sent key ∷ [])
noted_sent items key =
    let same : heard_characters items ≡ heard_characters (items ++ Sent key ∷ []) = sym (heard_characters-append items (Sent key ∷ []) ∙ append-nil (heard_characters items)) in
    noted_by (record (notes_of items) { last_key = Some key }) (notes_of (items ++ Sent key ∷ []))
    (ap has_prompt same) (sym (only_echoes-append None items (Sent key ∷ []) ∙ and_true (only_echoes None items)))
    (sym (typed_last-append None items (Sent key ∷ []))) (ap (last_of tail_length) same)

pub noted_quiet : (items : List Item) → notes_of items ≡ notes_of (items ++ Came Quiet ∷ [])
noted_quiet items =
    let same : heard_characters items ≡ heard_characters (items ++ Came Quiet ∷ []) = sym (heard_characters-append items (Came Quiet ∷ []) ∙ append-nil (heard_characters items)) in
    noted_by (notes_of items) (notes_of (items ++ Came Quiet ∷ []))
    (ap has_prompt same) (sym (only_echoes-append None items (Came Quiet ∷ []) ∙ and_true (only_echoes None items)))
    (sym (typed_last-append None items (Came Quiet ∷ []))) (ap (last_of tail_length) same)

pub noted_got : (items : List Item) (c : ℕ) (n : Noted) → n.prompt ≡ (has_prompt (heard_characters items) || (c == 64)) → n.only_echoes ≡ (only_echoes None items && echoes (typed_last None items) c)
    → n.last_key ≡ typed_last None items → n.tail ≡ last_of tail_length (heard_characters items ++ c ∷ []) → n ≡ notes_of (items ++ Came (Got c) ∷ [])
noted_got items c n prompt echo key tail =
    let chars : heard_characters (items ++ Came (Got c) ∷ []) ≡ heard_characters items ++ c ∷ [] = heard_characters-append items (Came (Got c) ∷ []) in
    noted_by n (notes_of (items ++ Came (Got c) ∷ []))
    (prompt ∙ sym (ap has_prompt chars ∙ (has_prompt-append (heard_characters items) (c ∷ []) ∙ ap (λ b. has_prompt (heard_characters items) || b) (or_false (c == 64)))))
    (echo ∙ sym (only_echoes-append None items (Came (Got c) ∷ []) ∙ ap (λ b. only_echoes None items && b) (and_true (echoes (typed_last None items) c))))
    (key ∙ sym (typed_last-append None items (Came (Got c) ∷ []))) (tail ∙ ap (last_of tail_length) (sym chars))
