use Rattle.std.proofs.Common.{◌≡◌, ◌<◌, ◌≤◌, ◌+◌, ℕ, List, ◌++◌, ◌∙◌, Bor, length, take, drop, get_or, sym, ap, subst, append_assoc, append-nil}
use Rattle.std.proofs.lemmas.List.{drop_more, flat_map_more, take-append-drop, take_all, take_more}
use Rattle.std.proofs.lemmas.Grind.{flat_map-append}
use Rattle.std.proofs.lemmas.Result.{on_err_weaker, on_ok_weaker}
use Rattle.endings.specs.FaultOutput.{StandardError, IsSaidInPart, IsSaidWhole}
use Rattle.run_log.specs.LogLine.{name_behind, names_behind}
use Rattle.run_log.proofs.Said.{both_said, cut_before, cut_behind, on_any_err}
use Rattle.run_log.proofs.line.write_names.Goals as goal

-- the names around one of them
around : (all : List (Bor (List ℕ))) (i : ℕ) (d : Bor (List ℕ)) → i < length all
    → names_behind all ≡ names_behind (take i all) ++ (name_behind (get_or all i d).now ++ names_behind (drop (i + 1) all))
around all i d more =
    ap names_behind (sym (take-append-drop i all))
    ∙ flat_map-append (λ name. name_behind name.now) (take i all) (drop i all)
    ∙ ap (λ (rest : List (Bor (List ℕ))). names_behind (take i all) ++ names_behind rest) (drop_more all i d more)

in_order : (command first name rest last : List ℕ) → ((command ++ first) ++ name) ++ (rest ++ last) ≡ command ++ ((first ++ (name ++ rest)) ++ last)
in_order command first name rest last =
    append_assoc (command ++ first) name (rest ++ last) ∙ append_assoc command first (name ++ (rest ++ last))
    ∙ ap (λ (t : List ℕ). command ++ t) (ap (λ (t : List ℕ). first ++ t) (sym (append_assoc name rest last)) ∙ sym (append_assoc first (name ++ rest) last))

next_name : (a b e : StandardError) (command : List ℕ) (all : List (Bor (List ℕ))) (i : ℕ) (d : Bor (List ℕ)) → i < length all
    → IsSaidWhole a b (command ++ names_behind (take i all)) → IsSaidWhole b e (name_behind (get_or all i d).now)
    → IsSaidWhole a e (command ++ names_behind (take (i + 1) all))
next_name a b e command all i d more so_far said =
    subst (IsSaidWhole a e)
    (flat_map_more (λ name. name_behind name.now) command (take i all) (get_or all i d)
    ∙ ap (λ (some : List (Bor (List ℕ))). command ++ names_behind some) (sym (take_more all i d more)))
    (both_said a b e (command ++ names_behind (take i all)) (name_behind (get_or all i d).now) so_far said)

cut_name : (a b e : StandardError) (command last : List ℕ) (all : List (Bor (List ℕ))) (i : ℕ) (d : Bor (List ℕ)) → i < length all
    → IsSaidWhole a b (command ++ names_behind (take i all)) → IsSaidInPart b e (name_behind (get_or all i d).now)
    → IsSaidInPart a e (command ++ (names_behind all ++ last))
cut_name a b e command last all i d more so_far cut =
    subst (IsSaidInPart a e)
    (in_order command (names_behind (take i all)) (name_behind (get_or all i d).now) (names_behind (drop (i + 1) all)) last
    ∙ ap (λ (names : List ℕ). command ++ (names ++ last)) (sym (around all i d more)))
    (cut_before a e ((command ++ names_behind (take i all)) ++ name_behind (get_or all i d).now) (names_behind (drop (i + 1) all) ++ last)
    (cut_behind a b e (command ++ names_behind (take i all)) (name_behind (get_or all i d).now) so_far cut))

all_names : (a b : StandardError) (command : List ℕ) (all : List (Bor (List ℕ))) (i : ℕ) → length all ≤ i
    → IsSaidWhole a b (command ++ names_behind (take i all)) → IsSaidWhole a b (command ++ names_behind all)
all_names a b command all i none = subst (λ (some : List (Bor (List ℕ))). IsSaidWhole a b (command ++ names_behind some)) (take_all i all none)

pub loop-name-init : goal.loop-name-init
loop-name-init g c = subst (IsSaidWhole _ _) (sym (append-nil c.args.command.now)) c.in_ok-say.ensures.ok

pub loop-name-preserved : goal.loop-name-preserved
loop-name-preserved g c = next_name _ _ _ _ _ _ _ c.loop-name-test.true c.loop-name.invariant c.in_ok-write_behind.ensures.ok

pub returns-in_err-say-clause-err : goal.returns-in_err-say-clause-err
returns-in_err-say-clause-err g c =
    on_any_err c.from_residual.result _
    (cut_before _ _ c.args.command.now (names_behind c.args.names.now ++ name_behind c.args.line.now) c.in_err-say.ensures.err)

pub returns-in_err-write_behind-clause-err : goal.returns-in_err-write_behind-clause-err
returns-in_err-write_behind-clause-err g c =
    on_any_err c.from_residual-in_err-write_behind.result _
    (cut_name _ _ _ _ (name_behind c.args.line.now) _ _ _ c.loop-name-test.true c.loop-name.invariant c.in_err-write_behind.ensures.err)

pub returns-clause-ok : goal.returns-clause-ok
returns-clause-ok g c =
    let all : List (Bor (List ℕ)) = c.args.names.now in
    on_ok_weaker c.write_behind-2.result
    (λ said. subst (IsSaidWhole _ _) (append_assoc c.args.command.now (names_behind all) (name_behind c.args.line.now))
    (both_said _ _ _ (c.args.command.now ++ names_behind all) (name_behind c.args.line.now)
    (all_names _ _ c.args.command.now all c.loop-name.name-index c.loop-name-test.false c.loop-name.invariant) said))
    c.write_behind-2.ensures.ok

pub returns-clause-err : goal.returns-clause-err
returns-clause-err g c =
    let all : List (Bor (List ℕ)) = c.args.names.now in
    on_err_weaker c.write_behind-2.result
    (λ cut. subst (IsSaidInPart _ _) (append_assoc c.args.command.now (names_behind all) (name_behind c.args.line.now))
    (cut_behind _ _ _ (c.args.command.now ++ names_behind all) (name_behind c.args.line.now)
    (all_names _ _ c.args.command.now all c.loop-name.name-index c.loop-name-test.false c.loop-name.invariant) cut))
    c.write_behind-2.ensures.err
