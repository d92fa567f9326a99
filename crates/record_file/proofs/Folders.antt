-- The folder of a name, from where its last slash is found.
use Rattle.std.proofs.Common.{◌≡◌, ℕ, ◌<◌, List, [], ◌∷◌, ◌++◌, take, drop, length, None, arith, sym, ap, ◌∙◌}
use Rattle.std.proofs.lemmas.Grind.{get_or_default_zero}
use Rattle.std.proofs.lemmas.List.{take-append-drop}
use Rattle.std.proofs.lemmas.Str.{encode_ascii}
use Rattle.std.proofs.lemmas.Str.Pattern.{rfind_char}
use Rattle.std.specs.Prelude.{Contains, codes}
use Rattle.std.specs.Str.Pattern.{RFindsChar, SplitsAroundMatch}
use Rattle.record_file.specs.Folder.{StandsBeforeSlash, IsFolderOf, Root, Named}

pub no_slash : (text : List ℕ) → RFindsChar 47 text None → Contains text 47 → ⊥
no_slash text none has = rfind_char 47 text None none (omega arith) has.0 has.1 (sym (get_or_default_zero text has.0 47 has.1) ∙ has.2)

before_slash : (name front rest : List ℕ) → SplitsAroundMatch (RFindsChar 47) name front rest → StandsBeforeSlash name front
before_slash name front rest s = (drop j name, parts, no_slash (drop j name) s.2.0) where
  i : ℕ
  i = s.0

  j : ℕ
  j = s.1

  behind : drop i name ≡ 47 ∷ drop j name
  behind = s.2.1.split ∙ ap (λ slash. slash ++ drop j name) (encode_ascii 47 (omega arith))

  parts : name ≡ front ++ 47 ∷ drop j name
  parts = sym (take-append-drop i name) ∙ ap (λ back. take i name ++ back) behind ∙ ap (λ f. f ++ 47 ∷ drop j name) (sym s.3)

pub root_of : (name front rest : List ℕ) → SplitsAroundMatch (RFindsChar 47) name front rest → length front ≡ 0 → IsFolderOf name (codes "/")
root_of name [] rest s empty = Root (before_slash name [] rest s)
root_of name (x ∷ front) rest s empty = absurd (omega (arith, empty))

pub named_of : (name front rest : List ℕ) → SplitsAroundMatch (RFindsChar 47) name front rest → 0 < length front → IsFolderOf name front
named_of name front rest s some = Named front some (before_slash name front rest s)
