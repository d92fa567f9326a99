-- What a script's input says, by the bytes that were taken of it.
use Rattle.request_values.specs.Change.{◌⇒◌}
use Rattle.std.proofs.Common.{◌≡◌, ℕ, ◌<◌, ◌≤◌, ◌+◌, inl, inr, ⊎_elim, List, [], ◌++◌, length, Option, [], replicate, false, arith, ap, ◌∙◌, subst, append-nil}
use Rattle.std.specs.Io.KnownBytes.{Keeps}
use Rattle.std.proofs.lemmas.List.{length-append}
use Rattle.tape_values.specs.Tape.{TapeValue}
use Rattle.tape_image.specs.Plan.{PlanValue, plan_of_all}
use Rattle.odt_machine.specs.declared.style.Style.{Style}
use Rattle.odt_machine.specs.Machine.{Machine}
use Rattle.host_core.specs.Core.{begun}
use Rattle.line_world.specs.Scene.{Scene}
use Rattle.line_world.specs.Opening.{opened}
use Rattle.loss_scripts.specs.declared.script.PutLine.{PutLine}
use Rattle.loss_scripts.specs.declared.script.StepLine.{StepLine}
use Rattle.tape_commands.specs.Played.{Played, not_possible_lines}
use Rattle.tape_commands.specs.Report.{report}
use Rattle.byte_io.specs.Input.{IsTaken}
use Rattle.tape_values.specs.Told.{IsAsTold}
use Rattle.tape_blocks.specs.declared.layout.Layout.{Layout}
use Rattle.input_files.specs.Tapes.{AreTapes, AreAllTaken}
use Rattle.loss_scripts.specs.Script.{IsRefusedScript, IsRefusedLine, script_limit}
use Rattle.tape_commands.specs.Rehearsal.{IsScriptInput, IsScriptInputFault, IsPlayFault, IsRehearseFault, IsRehearsal, IsRehearsed, AllLie, after_puts, machine_of, rehearsal_opening}
use Rattle.endings.specs.declared.command_fault.CommandFault.{CommandFault}
use Rattle.endings.specs.declared.command_fault.CommandFault.TheVariants as fault
use Rattle.loss_scripts.specs.declared.script.Script.{Script}
use Rattle.input_files.proofs.TapeInput.{left_of, whole, ends}

-- an input of which fewer bytes were taken than the limit is just these
all_taken : (before after : Option (List ℕ)) (bytes : List ℕ) → IsTaken before after (script_limit + 1) bytes → length bytes ≤ script_limit → IsAsTold before bytes
all_taken before after bytes taken few =
    subst (IsAsTold before) (ap (λ rest. bytes ++ rest) (ends after (taken.to_end (omega arith))) ∙ append-nil bytes) (whole before after bytes taken.consumed)

-- what is refused of the bytes taken is refused of the input
pub refused_input : (before after : Option (List ℕ)) (bytes read : List ℕ) (number : ℕ) → IsTaken before after (script_limit + 1) bytes → read ≡ bytes → IsRefusedScript read number
    → (text : List ℕ) × IsAsTold before text × IsRefusedScript text number
refused_input before after bytes read number taken same refused =
    ⊎_elim
    (λ long. (bytes ++ left_of after, whole before after bytes taken.consumed, inl (long.0, let longer = subst (λ t. script_limit < length t) same long.1 in omega (arith, length-append bytes (left_of after)))))
    (λ short. (bytes, all_taken before after bytes taken (subst (λ t. length t ≤ script_limit) same short.0), inr (subst (λ t. (length t ≤ script_limit) × IsRefusedLine t number) same short)))
    refused

-- what a rehearsal that was not played says of the inputs
pub play_fault : (inputs rests : List (Option (List ℕ))) (script out : Option (List ℕ)) (played : Script) (why : CommandFault) → AreAllTaken inputs rests → IsScriptInput script played → Keeps out out
    → IsPlayFault (replicate played.words 0) played.puts.items why → IsRehearseFault (inputs ⇒ rests) script (out ⇒ out) why
play_fault inputs rests script out played (fault.Script number) taken is keeps refused =
    (taken, record { text = is.text; is_input = is.is_input; refused = inr (played, is.is_script, refused) }, keeps)
play_fault inputs rests script out played fault.Memory taken is keeps refused = keeps
play_fault inputs rests script out played other taken is keeps refused = absurd refused

-- what a script that was not taken says of the inputs
pub script_fault : (inputs rests : List (Option (List ℕ))) (script out : Option (List ℕ)) (why : CommandFault) → AreAllTaken inputs rests → Keeps out out → IsScriptInputFault script why
    → IsRehearseFault (inputs ⇒ rests) script (out ⇒ out) why
script_fault inputs rests script out (fault.Script number) taken keeps refused = (taken, record { text = refused.0; is_input = refused.1; refused = inl refused.2 }, keeps)
script_fault inputs rests script out fault.ReadScript taken keeps refused = (taken, keeps)
script_fault inputs rests script out fault.Memory taken keeps refused = keeps
script_fault inputs rests script out other taken keeps refused = absurd refused

-- a machine after puts
abbrev machine_with : Machine → List PutLine → Machine
machine_with m puts = record m { memory = after_puts m.memory puts }

-- the machine after the puts
put_is : (style : Style) (size : ℕ) (odt put : Machine) (puts all : List PutLine) → odt ≡ machine_of style (replicate size 0) → puts ≡ all
    → put ≡ record odt { memory = after_puts odt.memory puts } → put ≡ machine_of style (after_puts (replicate size 0) all)
put_is style size odt put puts all odt_is puts_are is =
    is ∙ ap (λ (m : Machine). machine_with m puts) odt_is ∙ ap (λ ps. machine_of style (after_puts (replicate size 0) ps)) puts_are

lie_is : (m n : List ℕ) (puts all : List PutLine) → m ≡ n → puts ≡ all → AllLie m puts → AllLie n all
lie_is m n puts all same puts_are lie = subst (λ k. AllLie k all) same (subst (AllLie m) puts_are lie)

-- a rehearsal from its parts
pub rehearsal_made : (tapes : List TapeValue) (script : Script) (plan : PlanValue) (odt put : Machine) (world last : Scene) (puts : List PutLine) (steps : List StepLine) (waiting start told text : List ℕ)
    → odt ≡ machine_of script.style (replicate script.words 0) → puts ≡ script.puts.items
    → put ≡ record odt { memory = after_puts odt.memory puts } → AllLie odt.memory puts → waiting ≡ script.waiting.items
    → plan ≡ plan_of_all tapes → world ≡ opened put (begun plan 0 false script.patience) waiting → steps ≡ script.steps.items → start ≡ []
    → (numbers : List ℕ) × Played world steps last numbers × (told ≡ start ++ not_possible_lines numbers) → text ≡ told ++ report last → IsRehearsal tapes script text
rehearsal_made tapes script plan odt put world last puts steps waiting start told text odt_is puts_are is lie waits plan_is world_is steps_are none played text_is =
    let machine = put_is script.style script.words odt put puts script.puts.items odt_is puts_are is in
    let opens : world ≡ rehearsal_opening tapes script = world_is ∙ ap (λ p. opened put (begun p 0 false script.patience) waiting) plan_is ∙ ap (λ m. opened m (begun (plan_of_all tapes) 0 false script.patience) waiting) machine
    ∙ ap (λ ws. opened (machine_of script.style (after_puts (replicate script.words 0) script.puts.items)) (begun (plan_of_all tapes) 0 false script.patience) ws) waits in
    record {
      lie = lie_is odt.memory (replicate script.words 0) puts script.puts.items (ap (λ (m : Machine). m.memory) odt_is) puts_are lie;
      last = last;
      numbers = played.0;
      played = subst (λ w. Played w script.steps.items last played.0) opens (subst (λ ls. Played world ls last played.0) steps_are played.1);
      told = text_is ∙ ap (λ t. t ++ report last) (played.2 ∙ ap (λ s. s ++ not_possible_lines played.0) none);
    }

-- what the inputs say, and the text of it
pub rehearsed : (inputs rests : List (Option (List ℕ))) (script_input : Option (List ℕ)) (tapes played : List TapeValue) (layouts : List Layout) (text : List ℕ) (script : Script)
    → AreTapes inputs rests tapes layouts → played ≡ tapes → IsScriptInput script_input script → IsRehearsal played script text → IsRehearsed (inputs ⇒ rests) script_input text
rehearsed inputs rests script_input tapes played layouts text script are same is_script rehearsal = record {
  texts = are.texts;
  taken = are.taken;
  script = script;
  is_script = is_script;
  rehearsal = subst (λ ts. IsRehearsal ts script text) (same ∙ are.tapes_are) rehearsal;
}
