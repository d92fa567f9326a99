-- A look, a trial and a second look, over three honest lines and over one.
use Rattle.std.proofs.Common.{◌≡◌, ℕ, ◌^◌, ◌<◌, List, [], ◌∷◌, length, get_or, refl, arith, ap, sym, subst, ◌∙◌}
use Rattle.std.specs.Prelude.{All}
use Rattle.std.proofs.lemmas.List.Elements.{All-nil, All-cons, All-head, All-tail}
use Rattle.odt_machine.specs.Machine.{word_at}
use Rattle.host_core.specs.declared.heard.Heard.{Heard}
use Rattle.reading_core.specs.Addresses.{AreAddresses, IsAddress}
use Rattle.reading_core.specs.Laws.{led}
use Rattle.reading_core.specs.Reader.{Reader}
use Rattle.reading_core.proofs.Lives.{led_addresses}
use Rattle.looking_law.specs.Harmless.{HoldsRead}
use Rattle.looking_law.specs.Again.{FindsTheWordAgain, OneLineFindsTheWordAgain, Probing, ProbesFindTheWordAgain, looker_of}
use Rattle.looking_law.specs.Runs.{AreHarmless, IsBorneOut, MayBeSuchAHost, Look, Run, Try}
use Rattle.looking_law.proofs.Runs.{IsHarmless, no_harm, run_harmless}

-- ---- a host that looks at one word

one_address : (address : ℕ) → IsAddress address → AreAddresses (address ∷ [])
one_address address is = record {
  each = All-cons IsAddress address [] is (All-nil IsAddress);
  rising = λ i j d before low. absurd (omega (arith, before, low));
  few = omega arith;
}

-- ---- the numbers

one_number : (values : List ℕ) → length values ≡ 1 → values ≡ get_or values 0 0 ∷ []
one_number [] one = absurd (cc one)
one_number (v ∷ []) one = refl
one_number (v ∷ w ∷ values) one = absurd (omega (arith, one))

same_read : (memory : List ℕ) (r s : Reader) → s.addresses ≡ r.addresses → HoldsRead memory r → HoldsRead memory s → length r.values ≡ 1 → length s.values ≡ 1 → s.values ≡ r.values
same_read memory r s same first second one once =
    let number : get_or s.values 0 0 ≡ get_or r.values 0 0 =
    second.holds 0 (omega (arith, once)) ∙ (ap (λ (addresses : List ℕ). word_at memory (get_or addresses 0 0)) same ∙ sym (first.holds 0 (omega (arith, one)))) in
    one_number s.values once ∙ (ap (λ v. v ∷ []) number ∙ sym (one_number r.values one))

-- ---- the three

looks : (address patience : ℕ) (heard : List Heard) → IsAddress address → patience < 2 ^ 32 → MayBeSuchAHost (Look (address ∷ []) patience heard)
looks address patience heard is long = (one_address address is, long)

same_learned : (probing : Probing) (lost more : ℕ) → probing.behind.memory ≡ probing.before.memory → IsBorneOut probing.before.memory lost (Look (probing.address ∷ []) probing.patience probing.first) →
    IsBorneOut probing.before.memory more (Look (probing.address ∷ []) probing.patience probing.second) → FindsTheWordAgain probing
same_learned probing lost more same one other =
    let r : Reader = looker_of probing in
    record {
      memory = same;
      again = same_read probing.before.memory (led r probing.first) (led r probing.second) (led_addresses r probing.second ∙ sym (led_addresses r probing.first)) one.read other.read;
    }

pub find_again : ProbesFindTheWordAgain
find_again probing may over =
    same_learned probing over.lost_first over.lost_second (three.memory ∙ between) one.learned
    (subst (λ memory. IsBorneOut memory over.lost_second look_again) between three.learned)
  where
    look : Run
    look = Look (probing.address ∷ []) probing.patience probing.first

    trial : Run
    trial = Try probing.address probing.old probing.patience probing.trying

    look_again : Run
    look_again = Look (probing.address ∷ []) probing.patience probing.second

    one : IsHarmless probing.before look over.lost_first over.tried_at
    one = run_harmless look probing.before over.tried_at over.lost_first may.ready (looks probing.address probing.patience probing.first may.address may.patient) over.looks

    two : IsHarmless over.tried_at trial over.lost_trying over.looked_again_at
    two = run_harmless trial over.tried_at over.looked_again_at over.lost_trying one.ready (may.address, may.patient) over.tries

    three : IsHarmless over.looked_again_at look_again over.lost_second probing.behind
    three = run_harmless look_again over.looked_again_at probing.behind over.lost_second two.ready (looks probing.address probing.patience probing.second may.address may.patient) over.looks_again

    between : over.looked_again_at.memory ≡ probing.before.memory
    between = two.memory ∙ one.memory

pub one_line : OneLineFindsTheWordAgain
one_line probing may over =
    let one : Run = Look (probing.address ∷ []) probing.patience probing.first in
    let two : Run = Try probing.address probing.old probing.patience probing.trying in
    let three : Run = Look (probing.address ∷ []) probing.patience probing.second in
    let runs : All MayBeSuchAHost (one ∷ two ∷ three ∷ []) =
    All-cons MayBeSuchAHost one (two ∷ three ∷ []) (looks probing.address probing.patience probing.first may.address may.patient)
    (All-cons MayBeSuchAHost two (three ∷ []) (may.address, may.patient)
    (All-cons MayBeSuchAHost three [] (looks probing.address probing.patience probing.second may.address may.patient) (All-nil MayBeSuchAHost))) in
    let all : AreHarmless probing.before (one ∷ two ∷ three ∷ []) over.lost probing.behind = no_harm probing.before probing.behind (one ∷ two ∷ three ∷ []) over.told over.lost may.ready runs over.are_told over.honest in
    let P : Run → Type 0 = IsBorneOut probing.before.memory over.lost in
    same_learned probing over.lost over.lost all.memory
    (All-head P one (two ∷ three ∷ []) all.learned)
    (All-head P three [] (All-tail P two (three ∷ []) (All-tail P one (two ∷ three ∷ []) all.learned)))
