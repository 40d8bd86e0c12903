use Rattle.std.proofs.Common.{◌∙◌, ◌++◌, ◌+◌, [], ◌∷◌, ap, arith, drop, sym}
use Rattle.std.proofs.lemmas.List.{take_rest}
use Rattle.ti_values.specs.Renditions.{split_after, without_zeros}
use Rattle.ti_values.specs.inner.Rows.{slices_of}
use Rattle.ti_values.proofs.RenditionLemmas.{added, between, one_more, split_end, split_here, split_on}
use Rattle.ti_values.proofs.rendition.push_split.Goals as goal

pub bytes-preserved-then-not-is_separator : goal.bytes-preserved-then-not-is_separator
bytes-preserved-then-not-is_separator g c =
    let bytes = c.args.bytes.now in
    let i = c.bytes.place in
    record {
      low = omega (arith, c.bytes.invariant.low);
      parts =
          ap (λ l. slices_of c.bytes.list.items ++ l)
          (sym (split_on bytes c.bytes.start i c.bytes.invariant.low c.bytes-test.true (sym c.is_separator.ensures ∙ c.if-not-is_separator.true)))
          ∙ c.bytes.invariant.parts;
    }

pub bytes-preserved : goal.bytes-preserved
bytes-preserved g c =
    let bytes = c.args.bytes.now in
    let i = c.bytes.place in
    let here = without_zeros (between bytes c.bytes.start i) in
    record {
      low = omega arith;
      parts =
          added (slices_of c.bytes.list.items) (slices_of c.push.new.self.items) (here ∷ []) (split_after (between bytes (i + 1) (i + 1)) (drop (i + 1) bytes))
          (split_after (between bytes c.bytes.start i) (drop i bytes)) _ c.bytes.invariant.parts
          (split_here bytes c.bytes.start i c.bytes-test.true (sym c.is_separator.ensures ∙ c.if-not-is_separator.false))
          (one_more c.bytes.list.items c.push.new.self.items c.without_zeros.result here c.in_ok-push.ensures.items c.without_zeros.ensures);
    }

pub returns : goal.returns
returns g c =
    let bytes = c.args.bytes.now in
    let last = without_zeros (drop c.bytes.start bytes) in
    one_more c.bytes.list.items c.push-2.new.self.items c.without_zeros-2.result last c.in_ok-push-2.ensures.items (c.without_zeros-2.ensures ∙ ap without_zeros (take_rest bytes c.bytes.start))
    ∙ ap (λ l. slices_of c.bytes.list.items ++ l) (sym (split_end bytes c.bytes.start c.bytes.place (omega (arith, c.bytes-test.false))))
    ∙ c.bytes.invariant.parts
