use Rattle.std.proofs.Common.{◌+◌, ap, arith, drop, get_or}
use Rattle.std.proofs.lemmas.Bool.{le-ltb, lt-ltb}
use Rattle.std.proofs.lemmas.List.{drop_all, length-map}
use Rattle.ti_rules.specs.Controls.{bytes_of_unknown}
use Rattle.ti_rules.specs.inner.Held.{unknown_held, unknowns_held}
use Rattle.ti_rules.proofs.FittingLemmas.{fitting_end, fitting_next, fitting_stop}
use Rattle.ti_rules.proofs.ReportsLemmas.{no_unknown, one_more}
use Rattle.ti_rules.proofs.looked.unknown_fitting.Goals as goal

pub returns-then-text-room-clause-count : goal.returns-then-text-room-clause-count
returns-then-text-room-clause-count c =
    let texts = c.args.texts.now in
    let i = c.texts.text-index in
    fitting_stop bytes_of_unknown c.texts.room c.texts.count _ (unknown_held (get_or texts i no_unknown)) (drop i (unknowns_held texts)) (drop (i + 1) (unknowns_held texts))
    (one_more unknown_held texts i no_unknown c.texts-test.true) (lt-ltb _ _ c.if-text-room.true) c.texts.invariant.all

pub returns-then-text-room-clause-most : goal.returns-then-text-room-clause-most
returns-then-text-room-clause-most c = omega (arith, c.texts.invariant.at, c.texts-test.true)

pub texts-preserved : goal.texts-preserved
texts-preserved c =
    let texts = c.args.texts.now in
    let i = c.texts.text-index in
    record {
      at = ap (λ n. n + 1) c.texts.invariant.at;
      all = fitting_next bytes_of_unknown c.texts.room c.texts.count _ (unknown_held (get_or texts i no_unknown)) (drop i (unknowns_held texts)) (drop (i + 1) (unknowns_held texts))
          (one_more unknown_held texts i no_unknown c.texts-test.true) (le-ltb _ _ c.if-text-room.false) c.texts.invariant.all;
    }

pub returns : goal.returns
returns c =
    let texts = c.args.texts.now in
    let i = c.texts.text-index in
    record {
      count = fitting_end bytes_of_unknown c.texts.room c.texts.count _ (drop i (unknowns_held texts)) (drop_all i (unknowns_held texts) (omega (arith, c.texts-test.false, length-map texts unknown_held)))
          c.texts.invariant.all;
      most = omega (arith, c.texts.invariant.at, c.texts.auto.text-index-end);
    }
