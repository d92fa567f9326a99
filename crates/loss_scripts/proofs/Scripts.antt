-- A script as far as it is read, line by line.
use Rattle.std.proofs.Common.{◌≡◌, ℕ, ◌+◌, ◌<◌, ◌≤◌, inr, List, [], ◌∷◌, ◌++◌, length, suc, arith, ap, sym, refl, ◌∙◌, subst, append_assoc, append-nil, Bool, true, false, MatchBool, unwrap_or}
use Rattle.std.proofs.lemmas.Bool.{false≢true}
use Rattle.std.specs.List.{AllZip}
use Rattle.std.specs.Str.Lines.{lines}
use Rattle.std.proofs.lemmas.List.{length-append}
use Rattle.loss_scripts.specs.declared.line.ScriptLine.{ScriptLine}
use Rattle.loss_scripts.specs.declared.line.ScriptLine.TheVariants as line
use Rattle.loss_scripts.specs.declared.line.Setting.TheVariants.{Words, OfStyle, Patience, Wait, Put}
use Rattle.loss_scripts.specs.declared.script.Script.{Script}
use Rattle.loss_scripts.specs.declared.script.Draft.{Draft}
use Rattle.loss_scripts.specs.Line.{IsLine}
use Rattle.loss_scripts.specs.Script.{MayCome, IsInOrder, first_in, words_in, IsScript, IsRefusedScript}
use Rattle.loss_scripts.specs.Draft.{HasNamed, Joins}
use Rattle.loss_scripts.proofs.Drafts.{order_more}

zip_length : (ls : List (List ℕ)) (said : List ScriptLine) → AllZip IsLine ls said → length ls ≡ length said
zip_length [] [] are = refl
zip_length [] (s ∷ said) are = absurd are
zip_length (l ∷ ls) [] are = absurd are
zip_length (l ∷ ls) (s ∷ said) are = ap (λ n. suc n) (zip_length ls said are.1)

zip_more : (ls : List (List ℕ)) (said : List ScriptLine) (l : List ℕ) (s : ScriptLine) → AllZip IsLine ls said → IsLine l s → AllZip IsLine (ls ++ l ∷ []) (said ++ s ∷ [])
zip_more [] [] l s are is = (is, tt)
zip_more [] (x ∷ said) l s are is = absurd are
zip_more (x ∷ ls) [] l s are is = absurd are
zip_more (x ∷ ls) (y ∷ said) l s are is = (are.0, zip_more ls said l s are.1 is)

-- these lines have been read, and the rest is left
pub record IsReading (text rest : List ℕ) (draft : Draft) (number : ℕ) : Type 0 where
  pub before : List (List ℕ)
  pub all : lines text ≡ before ++ lines rest
  pub said : List ScriptLine
  pub spelled : AllZip IsLine before said
  pub in_order : IsInOrder said
  pub holds : HasNamed said draft
  pub count : number ≡ length before
  pub short : number + length rest ≤ length text

pub reading_none : (text : List ℕ) (draft : Draft) → HasNamed [] draft → IsReading text text draft 0
reading_none text draft holds = record {
  before = [];
  all = refl;
  said = [];
  spelled = tt;
  in_order = λ k d within. absurd (omega arith);
  holds = holds;
  count = refl;
  short = omega arith;
}

-- the number that the next line has
pub next_number : (text rest : List ℕ) (draft : Draft) (number : ℕ) (so : IsReading text rest draft number) → number + 1 ≡ length so.said + 1
next_number text rest draft number so = omega (arith, so.count, zip_length so.before so.said so.spelled)

pub reading_more : (text rest line after : List ℕ) (old new : Draft) (number : ℕ) (said : ScriptLine) (so : IsReading text rest old number)
    → lines rest ≡ line ∷ lines after → length after < length rest → IsLine line said → Joins so.said said new → IsReading text after new (number + 1)
reading_more text rest line after old new number said so first shorter is joins = record {
  before = so.before ++ line ∷ [];
  all = so.all ∙ ap (λ ls. so.before ++ ls) first ∙ sym (append_assoc so.before (line ∷ []) (lines after));
  said = so.said ++ said ∷ [];
  spelled = zip_more so.before so.said line said so.spelled is;
  in_order = order_more so.said said so.in_order joins.0;
  holds = joins.1;
  count = omega (arith, so.count, length-append so.before (line ∷ []));
  short = omega (arith, so.short);
}

-- the next line is wrong
pub reading_wrong : (text rest line after : List ℕ) (draft : Draft) (number : ℕ) (so : IsReading text rest draft number)
    → lines rest ≡ line ∷ lines after → ((said : ScriptLine) → IsLine line said → MayCome so.said said → ⊥) → length text ≤ 1048576 → IsRefusedScript text (number + 1)
reading_wrong text rest line after draft number so first wrong within = inr (
  within,
  record {
    before = so.before;
    refused = line;
    after = lines after;
    all = so.all ∙ ap (λ ls. so.before ++ ls) first;
    number_is = ap (λ n. n + 1) so.count;
    said = so.said;
    spelled = so.spelled;
    in_order = so.in_order;
    wrong = wrong;
  },
)

-- all lines are read
pub reading_all : (text rest : List ℕ) (draft : Draft) (number : ℕ) (so : IsReading text rest draft number) → rest ≡ [] → AllZip IsLine (lines text) so.said
reading_all text rest draft number so end =
    subst (λ ls. AllZip IsLine ls so.said) (sym (so.all ∙ ap (λ r. so.before ++ lines r) end ∙ append-nil so.before)) so.spelled

-- what a test says that came out so
pub joins_by : (P Q : Type 0) (test : Bool) → test ≡ true → MatchBool test P Q → P
joins_by P Q true on known = known
joins_by P Q false on known = absurd (false≢true on)

pub comes_not_by : (P Q : Type 0) (test : Bool) → test ≡ false → MatchBool test P Q → Q
comes_not_by P Q true off known = absurd (false≢true (sym off))
comes_not_by P Q false off known = known

-- no line asks for a machine that is too large
size_below : (ls : List (List ℕ)) (said : List ScriptLine) → AllZip IsLine ls said → unwrap_or (first_in words_in said) 28672 ≤ 28672
size_below [] [] are = omega arith
size_below [] (s ∷ said) are = absurd are
size_below (l ∷ ls) [] are = absurd are
size_below (l ∷ ls) (line.Blank ∷ said) are = size_below ls said are.1
size_below (l ∷ ls) (line.Step step ∷ said) are = size_below ls said are.1
size_below (l ∷ ls) (line.Setting (Words n) ∷ said) are = are.0.below
size_below (l ∷ ls) (line.Setting (OfStyle n) ∷ said) are = size_below ls said are.1
size_below (l ∷ ls) (line.Setting (Patience n) ∷ said) are = size_below ls said are.1
size_below (l ∷ ls) (line.Setting (Wait characters) ∷ said) are = size_below ls said are.1
size_below (l ∷ ls) (line.Setting (Put address value) ∷ said) are = size_below ls said are.1

pub size_of : (text : List ℕ) (script : Script) → IsScript text script → script.words ≤ 28672
size_of text script is = subst (λ n. n ≤ 28672) (sym is.words) (size_below (lines text) is.said is.spelled)
