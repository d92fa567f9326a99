-- What was heard so far, and then more.
use Rattle.std.proofs.Common.{◌≡◌, ◌⊎◌, inl, inr, ℕ, ◌+◌, List, [], ◌∷◌, ◌++◌, length, map, Option, Result, Ok, Err, OnErr, refl, sym, subst, ap, ◌∙◌, arith, length-append, append_assoc}
use Rattle.std.proofs.lemmas.List.{map-append}
use Rattle.std.proofs.KnownBytes.{Appends-trans}
use Rattle.std.specs.Io.KnownBytes.{Appends}
use Rattle.byte_io.specs.Output.{WritesPrefix}
use Rattle.host_core.specs.declared.heard.Heard.{Heard}
use Rattle.host_core.specs.declared.heard.Heard.TheVariants.{Got, Quiet}
use Rattle.host_devices.specs.Dialogue.{characters_of}
use Rattle.host_devices.proofs.Told.{gains_join}
use Rattle.host_devices.specs.Told.{Gains}
use Rattle.host_devices.specs.declared.item.Item.TheVariants.{Heard as Came}
use Rattle.console_lines.specs.Listening.{Copying, IsCopied, IsCopiedInPart, silences_behind}

characters_of-append : (xs ys : List Heard) → characters_of (xs ++ ys) ≡ characters_of xs ++ characters_of ys
characters_of-append [] ys = refl
characters_of-append (Got c ∷ xs) ys = ap (λ l. c ∷ l) (characters_of-append xs ys)
characters_of-append (Quiet ∷ xs) ys = characters_of-append xs ys

silences_behind-append : (before : ℕ) (xs ys : List Heard) → silences_behind before (xs ++ ys) ≡ silences_behind (silences_behind before xs) ys
silences_behind-append before [] ys = refl
silences_behind-append before (Got c ∷ xs) ys = silences_behind-append 0 xs ys
silences_behind-append before (Quiet ∷ xs) ys = silences_behind-append (before + 1) xs ys

copied_more : (xs ys : List Heard) (before between after : Copying) → IsCopied xs before between → IsCopied ys between after → IsCopied (xs ++ ys) before after
copied_more xs ys before between after first more = record {
  on_line = subst (Gains before.said after.said) (sym (map-append Came xs ys)) (gains_join before.said between.said after.said _ _ first.on_line more.on_line);
  written = subst (Appends before.out after.out) (sym (characters_of-append xs ys)) (Appends-trans before.out between.out after.out _ _ first.written more.written);
}

-- so much was heard and copied, and so many silences stand at its end
pub record HeardSoFar (silent count : ℕ) (before after : Copying) : Type 0 where
  pub heard : List Heard
  pub copied : IsCopied heard before after
  pub silent_is : silences_behind 0 heard ≡ silent
  pub counted : length heard ≡ count

pub more_heard : (silent count : ℕ) (next : Heard) (before between after : Copying)
    → HeardSoFar silent count before between → IsCopied (next ∷ []) between after → HeardSoFar (silences_behind silent (next ∷ [])) (count + 1) before after
more_heard silent count next before between after so_far more = record {
  heard = so_far.heard ++ next ∷ [];
  copied = copied_more so_far.heard (next ∷ []) before between after so_far.copied more;
  silent_is = silences_behind-append 0 so_far.heard (next ∷ []) ∙ ap (λ s. silences_behind s (next ∷ [])) so_far.silent_is;
  counted = omega (arith, length-append so_far.heard (next ∷ []), so_far.counted);
}

-- what was written before, and then more but for one character at its end
written_behind : (xs ys both : List ℕ) (character : ℕ) (o p q : Option (List ℕ)) → both ≡ xs ++ ys → Appends o p xs
    → Appends p q ys ⊎ Appends p q (ys ++ character ∷ []) → Appends o q both ⊎ Appends o q (both ++ character ∷ [])
written_behind xs ys both character o p q is before (inl more) = inl (subst (Appends o q) (sym is) (Appends-trans o p q xs ys before more))
written_behind xs ys both character o p q is before (inr more) = inr (subst (Appends o q) (sym (append_assoc xs ys (character ∷ [])) ∙ ap (λ l. l ++ character ∷ []) (sym is))
    (Appends-trans o p q xs (ys ++ character ∷ []) before more))

-- a write failed behind what was heard
pub cut_behind : (silent count : ℕ) (before between after : Copying) → HeardSoFar silent count before between → IsCopiedInPart between after → IsCopiedInPart before after
cut_behind silent count before between after so_far cut = record {
  heard = so_far.heard ++ cut.heard;
  character = cut.character;
  on_line = subst (λ l. Gains before.said after.said (map Came l)) (sym (append_assoc so_far.heard cut.heard (Got cut.character ∷ [])))
      (subst (Gains before.said after.said) (sym (map-append Came so_far.heard (cut.heard ++ Got cut.character ∷ [])))
      (gains_join before.said between.said after.said _ _ so_far.copied.on_line cut.on_line));
  written = written_behind (characters_of so_far.heard) (characters_of cut.heard) (characters_of (so_far.heard ++ cut.heard)) cut.character before.out between.out after.out
      (characters_of-append so_far.heard cut.heard) so_far.copied.written cut.written;
}

-- of one character that was to be written nothing was, or all
one_written : (out out' : Option (List ℕ)) (character : ℕ) (written left : List ℕ) → character ∷ [] ≡ written ++ left → Appends out out' written
    → Appends out out' [] ⊎ Appends out out' (character ∷ [])
one_written out out' character [] left whole appended = inl appended
one_written out out' character (x ∷ []) left whole appended = let same : x ≡ character = cc whole in inr (subst (λ y. Appends out out' (y ∷ [])) same appended)
one_written out out' character (x ∷ y ∷ more) left whole appended = absurd (cc whole)

-- a character was heard that could not be written
pub cut_at_once : (before after : Copying) (character : ℕ) → Gains before.said after.said (Came (Got character) ∷ [])
    → WritesPrefix before.out after.out (character ∷ []) → IsCopiedInPart before after
cut_at_once before after character gained prefix = record {
  heard = [];
  character = character;
  on_line = gained;
  written = one_written before.out after.out character prefix.1.written prefix.0 prefix.1.whole prefix.1.appended;
}

-- what is known anyway is known of an error
pub on_err : {T E : Type 0} (r : Result T E) (P : Type 0) → P → OnErr r P
on_err (Ok x) P h = tt
on_err (Err e) P h = h
