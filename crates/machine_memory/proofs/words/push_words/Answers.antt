use Rattle.std.proofs.Common.{List, [], ◌∷◌, ◌++◌, ◌∙◌, ap, sym, take, get_or, append_assoc, append-nil}
use Rattle.memory_core.specs.declared.seen.Seen.{Seen}
use Rattle.memory_report.specs.declared.findings.Word.{Word}
use Rattle.machine_memory.specs.Words.{words_of}
use Rattle.machine_memory.proofs.Zips.{next_read, none_read}
use Rattle.machine_memory.proofs.words.push_words.Goals as goal

pub loop-place-init : goal.loop-place-init
loop-place-init c = sym (append-nil c.args.words.now.items) ∙ ap (λ (t : List Word). c.args.words.now.items ++ t) (sym (none_read c.args.addresses.now))

pub loop-place-preserved : goal.loop-place-preserved
loop-place-preserved c =
    let i = c.loop-place.place in
    let all : List Seen = c.args.seen.now in
    let word : Word = record { address = get_or c.args.addresses.now i 0; seen = get_or all i _ } in
    c.in_ok-push.ensures.items
    ∙ (ap (λ (t : List Word). t ++ word ∷ []) c.loop-place.invariant
    ∙ (append_assoc c.args.words.now.items (words_of c.args.addresses.now (take i all)) (word ∷ [])
    ∙ ap (λ (t : List Word). c.args.words.now.items ++ t) (sym (next_read c.args.addresses.now all i _ c.loop-place-test.true c.requires))))
