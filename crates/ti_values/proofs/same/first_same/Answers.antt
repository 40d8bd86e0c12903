use Rattle.std.proofs.Common.{◌≡◌, ◌∙◌, ◌<◌, ℕ, List, Option, Some, None, ap, arith, length, nat_cmp, sym}
use Rattle.std.specs.BTreeMap.{get_by}
use Rattle.std.specs.Cmp.Lexicographic.{slice_cmp}
use Rattle.std.specs.Map.{update}
use Rattle.std.specs.Str.{bytes_eq}
use Rattle.std.proofs.lemmas.List.{length-map}
use Rattle.std.proofs.lemmas.Map.Text.{btree_map_updates_str}
use Rattle.ti_values.specs.Findings.{sent_at}
use Rattle.ti_values.specs.Sent.{texts_of}
use Rattle.ti_values.proofs.SameLemmas.{finds_more, no_earlier}
use Rattle.ti_values.proofs.same.first_same.Goals as goal

pub returns-in-Some : goal.returns-in-Some
returns-in-Some g c =
    let all = texts_of c.args.sent.now in
    let n = c.values.other in
    let find : List ℕ → Option ℕ = λ text. get_by (λ k. slice_cmp nat_cmp text k.now) c.values.earlier in
    let found : find (sent_at all n) ≡ Some c.in-Some.one = ap find (sym c.sent_at.ensures.exact) ∙ sym c.in_ok-one.ensures.old ∙ c.in-Some.is in
    let it = c.values.invariant.only (sent_at all n) c.in-Some.one found in
    let within : n < length all = omega (arith, c.values-test.true, length-map c.args.sent.now (λ t. t.items)) in
    record { exact = ((it.0, within, it.1), no_earlier all n find c.values.invariant) }

pub values-preserved : goal.values-preserved
values-preserved g c =
    let all = texts_of c.args.sent.now in
    let n = c.values.other in
    let find : List ℕ → Option ℕ = λ text. get_by (λ k. slice_cmp nat_cmp text k.now) c.values.earlier in
    let new : List ℕ → Option ℕ = λ text. get_by (λ k. slice_cmp nat_cmp text k.now) c.insert.new.self in
    let absent : find (sent_at all n) ≡ None = ap find (sym c.sent_at.ensures.exact) ∙ sym c.in_ok-one.ensures.old ∙ c.in_default.is in
    finds_more all n find new c.values.invariant absent
    (λ text. btree_map_updates_str c.sent_at.result.now c.values.earlier c.insert.new.self (Some n) c.in_ok-one.ensures.updates text
    ∙ ap (λ bytes. update bytes_eq find bytes (Some n) text) c.sent_at.ensures.exact)

pub returns : goal.returns
returns g c =
    let all = texts_of c.args.sent.now in
    let find : List ℕ → Option ℕ = λ text. get_by (λ k. slice_cmp nat_cmp text k.now) c.values.earlier in
    record {
      exact = λ one other same.
          no_earlier all c.values.other find c.values.invariant one other
          (omega (arith, same.1, c.values-test.false, length-map c.args.sent.now (λ t. t.items))) same;
    }
