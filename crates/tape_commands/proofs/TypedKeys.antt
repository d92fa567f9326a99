-- Typing goes on where it stopped.
use Rattle.request_values.specs.Change.{◌⇒◌}
use Rattle.std.proofs.Common.{◌≡◌, ◌≤◌, ◌+◌, ℕ, List, [], ◌∷◌, ◌++◌, Option, length, take, refl, sym, ap, subst, ◌∙◌, append_assoc, arith}
use Rattle.std.proofs.lemmas.List.{length-append, take-append-le}
use Rattle.std.proofs.KnownBytes.{Appends-trans, Consumes-kept, Consumes-trans}
use Rattle.std.specs.Io.KnownBytes.{Appends, Consumes, Keeps}
use Rattle.odt_machine.specs.Machine.{Machine}
use Rattle.odt_machine.specs.KeyTable.{take_of, after_key}
use Rattle.byte_io.specs.Output.{WritesProperPrefix}
use Rattle.tape_commands.specs.TypedKeys.{key_limit, typed_key, after_typing, answers_of, IsTyped, IsTypedSoFar, IsTypedInPart}

after_typing-append : (xs ys : List ℕ) (m : Machine) → after_typing m (xs ++ ys) ≡ after_typing (after_typing m xs) ys
after_typing-append [] ys m = refl
after_typing-append (x ∷ xs) ys m = after_typing-append xs ys (after_key m (typed_key x))

answers_of-append : (xs ys : List ℕ) (m : Machine) → answers_of m (xs ++ ys) ≡ answers_of m xs ++ answers_of (after_typing m xs) ys
answers_of-append [] ys m = refl
answers_of-append (x ∷ xs) ys m =
    ap (λ l. (take_of m (typed_key x)).answer ++ l) (answers_of-append xs ys (after_key m (typed_key x)))
    ∙ sym (append_assoc (take_of m (typed_key x)).answer (answers_of (after_key m (typed_key x)) xs) (answers_of (after_typing (after_key m (typed_key x)) xs) ys))

-- a read that failed gave nothing
pub so_far_kept : (input rest next : Option (List ℕ)) (machine after : Machine) (before written : Option (List ℕ)) (count : ℕ) → IsTypedSoFar (input ⇒ rest) (machine ⇒ after) (before ⇒ written) count → Keeps rest next
    → IsTypedSoFar (input ⇒ next) (machine ⇒ after) (before ⇒ written) count
so_far_kept input rest next machine after before written count so_far kept = record {
  keys = so_far.keys;
  typed = record {
    consumed = Consumes-kept input rest next so_far.keys so_far.typed.consumed kept;
    within = so_far.typed.within;
    typed = so_far.typed.typed;
  };
  answered = so_far.answered;
  counted = so_far.counted;
}

module _ (input rest next : Option (List ℕ)) (machine mid after : Machine) (before written now : Option (List ℕ)) (count n : ℕ) (given tail : List ℕ) where
  -- the characters that the read gave, in the buffer that it filled in part
  abbrev more : List ℕ
  more = take n (given ++ tail)

  -- the read gave them, and they were typed
  abbrev pub Typed : Type 0
  Typed = (n ≤ length given) × (n ≡ length (take n given)) × Consumes rest next (take n given) × (after ≡ after_typing mid more) × (count + n ≤ key_limit)

  is_given : Typed → take n given ≡ more
  is_given typed = sym (take-append-le n given tail typed.0)

  typed_more : (keys : List ℕ) → length keys ≡ count → IsTyped (input ⇒ rest) (machine ⇒ mid) keys → Typed → IsTyped (input ⇒ next) (machine ⇒ after) (keys ++ more)
  typed_more keys counted so_far typed = record {
    consumed = Consumes-trans input rest next keys more so_far.consumed (subst (Consumes rest next) (is_given typed) typed.2);
    within = let fits = typed.4 in let long = typed.1 ∙ ap length (is_given typed) in omega (arith, length-append keys more, long);
    typed = typed.3 ∙ ap (λ m. after_typing m more) so_far.typed ∙ sym (after_typing-append keys more machine);
  }

  -- the next characters typed and answered
  pub so_far_more : IsTypedSoFar (input ⇒ rest) (machine ⇒ mid) (before ⇒ written) count → Typed → Appends written now (answers_of mid more)
      → IsTypedSoFar (input ⇒ next) (machine ⇒ after) (before ⇒ now) (count + n)
  so_far_more so_far typed answered = record {
    keys = so_far.keys ++ more;
    typed = typed_more so_far.keys so_far.counted so_far.typed typed;
    answered = subst (Appends before now) (sym (joined so_far.keys so_far.typed.typed)) (Appends-trans before written now (answers_of machine so_far.keys) (answers_of mid more) so_far.answered answered);
    counted = let counted = so_far.counted in let long = typed.1 ∙ ap length (is_given typed) in omega (arith, length-append so_far.keys more, long);
  }
    where
      joined : (keys : List ℕ) → mid ≡ after_typing machine keys → answers_of machine (keys ++ more) ≡ answers_of machine keys ++ answers_of mid more
      joined keys e = answers_of-append keys more machine ∙ ap (λ m. answers_of machine keys ++ answers_of m more) (sym e)

  -- the next characters typed, and answered in part
  pub in_part : IsTypedSoFar (input ⇒ rest) (machine ⇒ mid) (before ⇒ written) count → Typed → WritesProperPrefix written now (answers_of mid more)
      → IsTypedInPart (input ⇒ next) (machine ⇒ after) (before ⇒ now)
  in_part so_far typed (left, missing, part) = record {
    keys = so_far.keys ++ more;
    typed = typed_more so_far.keys so_far.counted so_far.typed typed;
    answered = (
      left,
      missing,
      record {
        written = answers_of machine so_far.keys ++ part.written;
        whole = answers_of-append so_far.keys more machine ∙ ap (λ m. answers_of machine so_far.keys ++ answers_of m more) (sym so_far.typed.typed)
            ∙ ap (λ l. answers_of machine so_far.keys ++ l) part.whole ∙ sym (append_assoc (answers_of machine so_far.keys) part.written left);
        appended = Appends-trans before written now (answers_of machine so_far.keys) part.written so_far.answered part.appended;
      },
    );
  }
