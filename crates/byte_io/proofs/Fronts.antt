-- Fronts of texts: what is written of a text before a write fails.
use Rattle.std.proofs.Common.{◌<◌, ℕ, List, [], ◌++◌, length, Option, arith, refl, sym, ap, ◌∙◌, append_assoc, append-nil}
use Rattle.std.proofs.lemmas.List.{length-append}
use Rattle.std.specs.Io.KnownBytes.{Appends}
use Rattle.std.proofs.KnownBytes.{Appends-nil, Appends-trans}
use Rattle.byte_io.specs.Output.{WritesPrefix, WritesProperPrefix}

-- nothing was written
pub front_none : (out : Option (List ℕ)) (text : List ℕ) → WritesPrefix out out text
front_none out text = (text, record { written = []; whole = refl; appended = Appends-nil out })

pub front_prefix : (before after : Option (List ℕ)) (text : List ℕ) → WritesProperPrefix before after text → WritesPrefix before after text
front_prefix before after text w = (w.0, w.2)

-- all of it was written
pub front_whole : (before after : Option (List ℕ)) (text : List ℕ) → Appends before after text → WritesPrefix before after text
front_whole before after text wrote = ([], record { written = text; whole = sym (append-nil text); appended = wrote })

-- a front of a text is one of a longer text
pub front_longer : (before after : Option (List ℕ)) (text more : List ℕ) → WritesPrefix before after text → WritesPrefix before after (text ++ more)
front_longer before after text more (left, w) = (
  left ++ more,
  record { written = w.written; whole = ap (λ l. l ++ more) w.whole ∙ append_assoc w.written left more; appended = w.appended },
)

-- .. and with more left than nothing, one that is missing something
pub prefix_longer : (before after : Option (List ℕ)) (text more : List ℕ) → 0 < length more → WritesPrefix before after text → WritesProperPrefix before after (text ++ more)
prefix_longer before after text more some (left, w) = (
  left ++ more,
  omega (arith, length-append left more, some),
  record { written = w.written; whole = ap (λ l. l ++ more) w.whole ∙ append_assoc w.written left more; appended = w.appended },
)

-- behind a text that was written whole
pub front_behind : (before between after : Option (List ℕ)) (told text : List ℕ) → Appends before between told → WritesPrefix between after text → WritesPrefix before after (told ++ text)
front_behind before between after told text first (left, w) = (
  left,
  record {
    written = told ++ w.written;
    whole = ap (λ l. told ++ l) w.whole ∙ sym (append_assoc told w.written left);
    appended = Appends-trans before between after told w.written first w.appended;
  },
)

pub prefix_behind : (before between after : Option (List ℕ)) (told text : List ℕ) → Appends before between told → WritesProperPrefix between after text → WritesProperPrefix before after (told ++ text)
prefix_behind before between after told text first (left, missing, w) = (
  left,
  missing,
  record {
    written = told ++ w.written;
    whole = ap (λ l. told ++ l) w.whole ∙ sym (append_assoc told w.written left);
    appended = Appends-trans before between after told w.written first w.appended;
  },
)
