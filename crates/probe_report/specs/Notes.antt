-- What is noted of what was said on a line (this project's choice).
use Rattle.std.specs.Prelude.{ℕ, ◌-◌, Bool, true, false, ◌==◌, ◌&&◌, ◌||◌, List, [], ◌∷◌, length, drop, Option, Some, None}
use Rattle.host_core.specs.Console.{prompt}
use Rattle.host_core.specs.declared.heard.Heard.TheVariants.{Got, Quiet}
use Rattle.host_devices.specs.Dialogue.{characters_of, heard_of}
use Rattle.host_devices.specs.declared.item.Item.{Item}
use Rattle.host_devices.specs.declared.item.Item.TheVariants.{Sent, Heard as Came}

-- the characters among what was said on a line that were heard, in their order
abbrev pub heard_characters : List Item → List ℕ
heard_characters items = characters_of (heard_of items)

-- one of them is the prompt, `@`
abbrev pub has_prompt : List ℕ → Bool
has_prompt [] = false
has_prompt (c ∷ cs) = c == prompt || has_prompt cs

-- a character is the key that was typed last
abbrev pub echoes : Option ℕ → ℕ → Bool
echoes None c = false
echoes (Some key) c = c == key

-- the key that was typed last, behind an earlier one if there is any
abbrev pub typed_last : Option ℕ → List Item → Option ℕ
typed_last last [] = last
typed_last last (Came heard ∷ items) = typed_last last items
typed_last last (Sent key ∷ items) = typed_last (Some key) items

-- each character that was heard is the key that was typed last before it
abbrev pub only_echoes : Option ℕ → List Item → Bool
only_echoes last [] = true
only_echoes last (Came (Got c) ∷ items) = echoes last c && only_echoes last items
only_echoes last (Came Quiet ∷ items) = only_echoes last items
only_echoes last (Sent key ∷ items) = only_echoes (Some key) items

-- the last n of a list, or all of it
abbrev pub last_of : ℕ → List ℕ → List ℕ
last_of n xs = drop (length xs - n) xs

-- how many of the characters heard last are kept, for the line of a report that shows them
abbrev pub tail_length : ℕ
tail_length = 40

-- whether a prompt was heard, whether nothing but echoes was, the key that was typed last, and the last characters heard
pub record Noted : Type 0 where
  pub prompt : Bool
  pub only_echoes : Bool
  pub last_key : Option ℕ
  pub tail : List ℕ

-- what is noted of what was said on a line
abbrev pub notes_of : List Item → Noted
notes_of items = record {
  prompt = has_prompt (heard_characters items);
  only_echoes = only_echoes None items;
  last_key = typed_last None items;
  tail = last_of tail_length (heard_characters items);
}
