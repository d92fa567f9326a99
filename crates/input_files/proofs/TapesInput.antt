-- Tapes taken of inputs, one after another.
use Rattle.std.proofs.Common.{◌≡◌, ◌<◌, ◌≤◌, ◌+◌, ℕ, List, [], ◌∷◌, ◌++◌, Option, map, take, drop, set, length, sym, ap, ◌∙◌, subst, arith}
use Rattle.std.proofs.Common.{get_or, take-append-drop}
use Rattle.std.proofs.KnownBytes.{Consumes-nil}
use Rattle.std.proofs.lemmas.List.{map-append, take-map, drop-map, take_all, take_more, take_more_set, take-set, drop_more, drop-set-lt, length-append, length-set}
use Rattle.std.proofs.lemmas.List.Elements.{AllZip-push}
use Rattle.tape_blocks.specs.Tape.{TapeValue}
use Rattle.byte_io.specs.Input.{TakesAtMost}
use Rattle.tape_blocks.specs.Input.{input_limit}
use Rattle.tape_blocks.specs.Layout.{IsLaidOut}
use Rattle.tape_blocks.specs.declared.layout.Layout.{Layout}
use Rattle.input_files.specs.Tapes.{TapeText, IsTapeTaken, AreTaken, AreTapes, StopsAt, TakeAtMost, AreLaidOut, tapes_of}

-- of the first inputs tapes were taken, and the others are as they were
pub record IsTaking {X : Type 0} (known : X → Option (List ℕ)) (start now : List X) (done : ℕ) (tapes : List TapeValue) (layouts : List Layout) : Type 0 where
  pub texts : List TapeText
  pub count : length texts ≡ done
  pub size : length now ≡ length start
  pub taken : AreTaken (map known (take done start)) (map known (take done now)) texts
  pub at_most : TakeAtMost (map known (take done start)) (map known (take done now))
  pub rest : drop done now ≡ drop done start
  pub tapes_are : tapes ≡ tapes_of texts
  pub laid : AreLaidOut texts layouts

-- one tape more
are_more : (befores afters : List (Option (List ℕ))) (texts : List TapeText) (before after : Option (List ℕ)) (t : TapeText) → AreTaken befores afters texts → IsTapeTaken before after t
    → AreTaken (befores ++ before ∷ []) (afters ++ after ∷ []) (texts ++ t ∷ [])
are_more [] [] [] before after t are is = (is, tt)
are_more [] [] (u ∷ us) before after t are is = absurd are
are_more [] (y ∷ ys) [] before after t are is = absurd are
are_more [] (y ∷ ys) (u ∷ us) before after t are is = absurd are
are_more (x ∷ xs) [] [] before after t are is = absurd are
are_more (x ∷ xs) [] (u ∷ us) before after t are is = absurd are
are_more (x ∷ xs) (y ∷ ys) [] before after t are is = absurd are
are_more (x ∷ xs) (y ∷ ys) (u ∷ us) before after t are is = (are.0, are_more xs ys us before after t are.1 is)

laid_more : (texts : List TapeText) (layouts : List Layout) (t : TapeText) (layout : Layout) → AreLaidOut texts layouts → IsLaidOut t.text t.tape layout
    → AreLaidOut (texts ++ t ∷ []) (layouts ++ layout ∷ [])
laid_more [] [] t layout are is = (is, tt)
laid_more [] (l ∷ ls) t layout are is = absurd are
laid_more (u ∷ us) [] t layout are is = absurd are
laid_more (u ∷ us) (l ∷ ls) t layout are is = (are.0, laid_more us ls t layout are.1 is)

at_most_joined : (xs ys others : List (Option (List ℕ))) → TakeAtMost xs ys → TakeAtMost (xs ++ others) (ys ++ others)
at_most_joined [] [] others first = untouched others
  where
    untouched : (bs : List (Option (List ℕ))) → TakeAtMost bs bs
    untouched [] = tt
    untouched (b ∷ bs) = (record { taken = []; consumed = Consumes-nil b; within = omega arith }, untouched bs)
at_most_joined [] (y ∷ ys) others first = absurd first
at_most_joined (x ∷ xs) [] others first = absurd first
at_most_joined (x ∷ xs) (y ∷ ys) others first = (first.0, at_most_joined xs ys others first.1)

module _ {X : Type 0} (known : X → Option (List ℕ)) (start now : List X) (i : ℕ) (d y : X) (tapes : List TapeValue) (layouts : List Layout) (so : IsTaking known start now i tapes layouts) (within : i < length start) where
  -- the input whose turn it is
  abbrev x : X
  x = get_or now i d

  size : i < length now
  size = let same = so.size in omega arith

  here : drop i start ≡ x ∷ drop (i + 1) now
  here = sym so.rest ∙ drop_more now i d size

  rests : drop (i + 1) now ≡ drop (i + 1) start
  rests = let same = sym here ∙ drop_more start i d within in cc

  first : get_or start i d ≡ x
  first = let same = sym here ∙ drop_more start i d within in cc

  -- what is known of the inputs so far and of this one
  befores : map known (take (i + 1) start) ≡ map known (take i start) ++ known x ∷ []
  befores = ap (map known) (take_more start i d within ∙ ap (λ z. take i start ++ z ∷ []) first) ∙ map-append known (take i start) (x ∷ [])

  afters : map known (take (i + 1) (set now i y)) ≡ map known (take i now) ++ known y ∷ []
  afters = ap (map known) (take_more_set now i y size) ∙ map-append known (take i now) (y ∷ [])

  at_most_more : TakesAtMost (known x) (known y) input_limit → TakeAtMost (map known (take (i + 1) start)) (map known (take (i + 1) (set now i y)))
  at_most_more most =
      subst (λ bs. TakeAtMost bs (map known (take (i + 1) (set now i y)))) (sym befores)
      (subst (TakeAtMost (map known (take i start) ++ known x ∷ [])) (sym afters)
      (AllZip-push (λ before after. TakesAtMost before after input_limit) (map known (take i start)) (map known (take i now)) (known x) (known y) so.at_most most))

  rest_more : drop (i + 1) (set now i y) ≡ drop (i + 1) start
  rest_more = drop-set-lt (i + 1) now i y (omega arith) ∙ rests

  split : (zs : List X) → map known zs ≡ map known (take (i + 1) zs) ++ map known (drop (i + 1) zs)
  split zs = ap (map known) (sym (take-append-drop (i + 1) zs)) ∙ map-append known (take (i + 1) zs) (drop (i + 1) zs)

  -- whatever came of this input, no more was taken of any than may be
  pub at_most_all : TakesAtMost (known x) (known y) input_limit → TakeAtMost (map known start) (map known (set now i y))
  at_most_all most =
      subst (λ bs. TakeAtMost bs (map known (set now i y))) (sym (split start))
      (subst (TakeAtMost (map known (take (i + 1) start) ++ map known (drop (i + 1) start))) (sym (split (set now i y) ∙ ap (λ zs. map known (take (i + 1) (set now i y)) ++ map known zs) rest_more))
      (at_most_joined (map known (take (i + 1) start)) (map known (take (i + 1) (set now i y))) (map known (drop (i + 1) start)) (at_most_more most)))

  -- this input gave no tape
  pub stops : StopsAt (map known start) (map known (set now i y)) (i + 1) (known x)
  stops = record {
    texts = so.texts;
    taken = subst (λ bs. AreTaken bs (take (length so.texts) (map known (set now i y))) so.texts) (sym (front start))
        (subst (λ bs. AreTaken (map known (take i start)) bs so.texts) (sym (front (set now i y) ∙ ap (map known) (take-set now i y))) so.taken);
    number_is = ap (λ n. n + 1) (sym so.count);
    input_is = ap (λ n. drop n (map known start)) so.count ∙ drop-map known i start ∙ ap (map known) (here ∙ ap (λ zs. x ∷ zs) rests) ∙ ap (λ bs. known x ∷ bs) (sym (drop-map known (i + 1) start));
    untouched = drop-map known (i + 1) (set now i y) ∙ ap (map known) rest_more ∙ sym (drop-map known (i + 1) start);
  }
    where
      front : (zs : List X) → take (length so.texts) (map known zs) ≡ map known (take i zs)
      front zs = ap (λ n. take n (map known zs)) so.count ∙ take-map known i zs

  -- this input gave a tape
  pub taking_more : (text : List ℕ) (tape : TapeValue) (layout : Layout) (more_tapes : List TapeValue) (more_layouts : List Layout) → IsTapeTaken (known x) (known y) (record { text = text; tape = tape }) → IsLaidOut text tape layout
      → TakesAtMost (known x) (known y) input_limit → more_tapes ≡ tapes ++ tape ∷ [] → more_layouts ≡ layouts ++ layout ∷ [] → IsTaking known start (set now i y) (i + 1) more_tapes more_layouts
  taking_more text tape layout more_tapes more_layouts is laid most tapes_more layouts_more =
      let t : TapeText = record { text = text; tape = tape } in
      record {
        texts = so.texts ++ t ∷ [];
        count = length-append so.texts (t ∷ []) ∙ ap (λ n. n + 1) so.count;
        size = length-set now i y ∙ so.size;
        taken = subst (λ bs. AreTaken bs (map known (take (i + 1) (set now i y))) (so.texts ++ t ∷ [])) (sym befores)
            (subst (λ bs. AreTaken (map known (take i start) ++ known x ∷ []) bs (so.texts ++ t ∷ [])) (sym afters)
            (are_more (map known (take i start)) (map known (take i now)) so.texts (known x) (known y) t so.taken is));
        at_most = at_most_more most;
        rest = rest_more;
        tapes_are = tapes_more ∙ ap (λ ts. ts ++ tape ∷ []) so.tapes_are ∙ sym (map-append (λ (u : TapeText). u.tape) so.texts (t ∷ []));
        laid = subst (AreLaidOut (so.texts ++ t ∷ [])) (sym layouts_more)
            (laid_more so.texts layouts t layout so.laid laid);
      }

-- each input gave a tape
module _ {X : Type 0} (known : X → Option (List ℕ)) (start now : List X) (done : ℕ) (tapes : List TapeValue) (layouts : List Layout) (so : IsTaking known start now done tapes layouts) (all : length start ≤ done) where
  started : take done start ≡ start
  started = take_all done start all

  ended : take done now ≡ now
  ended = take_all done now (let same = so.size in omega arith)

  pub are_tapes : AreTapes (map known start) (map known now) tapes layouts
  are_tapes = record {
    texts = so.texts;
    taken = subst (λ xs. AreTaken (map known xs) (map known now) so.texts) started (subst (λ xs. AreTaken (map known (take done start)) (map known xs) so.texts) ended so.taken);
    tapes_are = so.tapes_are;
    laid = so.laid;
  }

  pub taken_at_most : TakeAtMost (map known start) (map known now)
  taken_at_most = subst (λ xs. TakeAtMost (map known xs) (map known now)) started (subst (λ xs. TakeAtMost (map known (take done start)) (map known xs)) ended so.at_most)
