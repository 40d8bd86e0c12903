use Rattle.std.proofs.Common.{◌≡◌, ◌∙◌, ◌-◌, ◌++◌, [], Bor, List, ℕ, ap₂, arith, get_or, sym}
use Rattle.std.proofs.lemmas.List.{get_or-map, length-map}
use Rattle.ti_rules.specs.inner.Lent.{key_lent, keys_lent}
use Rattle.ti_rules.specs.inner.Neighbours.{on_neighbours}
use Rattle.ti_rules.proofs.KeysLemmas.{row_end, row_next}
use Rattle.ti_rules.proofs.report.Report.push_row.Goals as goal

abbrev no_text : Bor (List ℕ)
no_text = record { ref_ptr = (0, 0); now = [] }

pub keys-preserved : goal.keys-preserved
keys-preserved g c =
    let l = c.keys in
    let row = c.args.row.now in
    let i = l.next in
    let before : get_or (keys_lent row) (i - 1) ([], []) ≡ key_lent (get_or row (i - 1) (no_text, no_text)) = get_or-map key_lent row (i - 1) (no_text, no_text) ([], []) (omega (arith, c.keys-test.true)) in
    let here : get_or (keys_lent row) i ([], []) ≡ key_lent (get_or row i (no_text, no_text)) = get_or-map key_lent row i (no_text, no_text) ([], []) (omega (arith, c.keys-test.true)) in
    let (kept, is) = c.in_ok-push_neighbours.ensures in
    record {
      low = omega (arith, l.invariant.low);
      kept = kept ∙ l.invariant.kept;
      so_far =
          row_next (keys_lent row) i ([], []) l.self.remarks c.push_neighbours.new.self.remarks _ l.invariant.low (omega (arith, c.keys-test.true, length-map row key_lent))
          (is ∙ ap₂ (λ one other. l.self.remarks ++ on_neighbours one other) (sym before) (sym here)) l.invariant.so_far;
    }

pub returns : goal.returns
returns g c = (
  c.keys.invariant.kept,
  row_end (keys_lent c.args.row.now) c.keys.next c.keys.self.remarks _ (omega (arith, c.keys-test.false, length-map c.args.row.now key_lent)) c.keys.invariant.so_far,
)
