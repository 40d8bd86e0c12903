use Rattle.std.proofs.Common.{◌≡◌, refl, ℕ, ◌+◌, ◌-◌, ◌<◌, ◌≤◌, length, sym, ◌∙◌, ap, subst, arith, rules}
use Rattle.ti_cap.specs.inner.Lexer.{token_read}
use Rattle.ti_cap.specs.inner.Analysis.{Findings}
use Rattle.ti_cap.specs.inner.Scan.{findings_of}
use Rattle.ti_cap.proofs.IsRefusalLemmas.{Parsed, parse_start, parse_step, parse_fault, parse_misplaced, parse_no_then, parse_done, parsed_low, parsed_small, parsed_few, rest_start, rest_after}
use Rattle.ti_cap.proofs.parse.limits_of.Goals as goal

pub reads-init : goal.reads-init
reads-init o c =
    let none : length c.args.bytes.now - length c.args.bytes.now ≡ 0 = omega arith in
    let P : Findings → Type 0 = λ x. Parsed c.args.bytes.now c.args.longest (length c.args.bytes.now - length c.args.bytes.now) 0 x in
    record { parsed = subst P (sym (c.new-scan.ensures.start _)) (parse_start _ _ _ none); rest = rest_start c.args.bytes.now; order = c.new-scan.ensures.order o.row.ROOM }

pub returns-in-Err-clause-refused : goal.returns-in-Err-clause-refused
returns-in-Err-clause-refused o c = λ sure.
    let more : 0 < length c.reads.left.now = search rules in
    parse_fault _ _ _ _ _ c.in-Err.fault (λ i. omega (arith, c.type_inv.bytes i)) c.requires.short (omega (arith, c.reads.invariant.rest.within)) c.reads.invariant.parsed
    (ap token_read (sym c.reads.invariant.rest.is) ∙ sym c.read_token.ensures ∙ c.in-Err.is)

pub take-requires : goal.take-requires
take-requires o c =
    let low = parsed_low _ _ _ _ _ c.reads.invariant.parsed in
    let small = parsed_small _ _ _ _ _ (omega (arith, c.ranges.longest)) c.requires.short c.reads.invariant.parsed in
    (omega (arith, c.requires.room), (c.requires.room, (low, (small, c.reads.invariant.order))))

pub returns-in-Err-take-clause-refused : goal.returns-in-Err-take-clause-refused
returns-in-Err-take-clause-refused o c = λ sure.
    parse_misplaced _ _ _ _ _ c.in-Ok.token c.in-Ok.long c.in-Err-take.fault (λ i. omega (arith, c.type_inv.bytes i)) c.requires.short c.reads.invariant.parsed
    (ap token_read (sym c.reads.invariant.rest.is) ∙ sym c.read_token.ensures ∙ c.in-Ok.is) (c.in-Err-take.ensures.refused sure)

pub slice_bounds-left-count : goal.slice_bounds-left-count
slice_bounds-left-count o c =
    let r = parse_step _ _ _ _ _ c.in-Ok.token c.in-Ok.long (λ i. omega (arith, c.type_inv.bytes i)) c.reads.invariant.parsed (ap token_read (sym c.reads.invariant.rest.is) ∙ sym c.read_token.ensures ∙ c.in-Ok.is) c.in-Ok-take.ensures.fine in
    omega (arith, r.within, c.reads.invariant.rest.within)

pub slice_bounds-left-start : goal.slice_bounds-left-start
slice_bounds-left-start o c =
    let r = parse_step _ _ _ _ _ c.in-Ok.token c.in-Ok.long (λ i. omega (arith, c.type_inv.bytes i)) c.reads.invariant.parsed (ap token_read (sym c.reads.invariant.rest.is) ∙ sym c.read_token.ensures ∙ c.in-Ok.is) c.in-Ok-take.ensures.fine in
    let low : c.in-Ok.long ≤ length c.reads.left.now = omega (arith, r.within, c.reads.invariant.rest.within) in
    low

pub overflow_add-tokens : goal.overflow_add-tokens
overflow_add-tokens o c = omega (arith, parsed_few _ _ _ _ _ c.reads.invariant.parsed, c.requires.short)

pub reads-smaller : goal.reads-smaller
reads-smaller o c =
    let r = parse_step _ _ _ _ _ c.in-Ok.token c.in-Ok.long (λ i. omega (arith, c.type_inv.bytes i)) c.reads.invariant.parsed (ap token_read (sym c.reads.invariant.rest.is) ∙ sym c.read_token.ensures ∙ c.in-Ok.is) c.in-Ok-take.ensures.fine in
    let low : c.in-Ok.long ≤ length c.reads.left.now = omega (arith, r.within, c.reads.invariant.rest.within) in
    let rest = rest_after c.args.bytes.now c.reads.left.now c.in-Ok.long c.reads.invariant.rest low in
    omega (arith, rest.0, rest.1.within, r.further, r.within, c.reads.invariant.rest.within)

pub reads-preserved : goal.reads-preserved
reads-preserved o c =
    let r = parse_step _ _ _ _ _ c.in-Ok.token c.in-Ok.long (λ i. omega (arith, c.type_inv.bytes i)) c.reads.invariant.parsed (ap token_read (sym c.reads.invariant.rest.is) ∙ sym c.read_token.ensures ∙ c.in-Ok.is) c.in-Ok-take.ensures.fine in
    let low : c.in-Ok.long ≤ length c.reads.left.now = omega (arith, r.within, c.reads.invariant.rest.within) in
    let rest = rest_after c.args.bytes.now c.reads.left.now c.in-Ok.long c.reads.invariant.rest low in
    let P : Findings → Type 0 = λ x. Parsed c.args.bytes.now c.args.longest (length c.args.bytes.now - length c.reads.left.now + c.in-Ok.long) (c.reads.tokens + 1) x in
    let Q : ℕ → Type 0 = λ x. Parsed c.args.bytes.now c.args.longest x (c.reads.tokens + 1) (findings_of c.take.new.self c.take.new.opens) in
    record { parsed = subst Q rest.0 (subst P (sym c.in-Ok-take.ensures.taken) r.parsed); rest = rest.1; order = c.in-Ok-take.ensures.order }

pub returns-then-is_in_first_test-clause-refused : goal.returns-then-is_in_first_test-clause-refused
returns-then-is_in_first_test-clause-refused o c = λ sure.
    let none : length c.reads.left.now ≡ 0 = search rules in
    parse_no_then _ _ _ _ _ c.requires.short (omega (arith, none)) c.reads.invariant.parsed (sym c.is_in_first_test.ensures ∙ c.if-is_in_first_test.true)

pub returns-clause-accepted : goal.returns-clause-accepted
returns-clause-accepted o c =
    let none : length c.reads.left.now ≡ 0 = search rules in
    parse_done _ _ _ _ _ (record { tokens = c.reads.tokens; depth = c.depth.result; nest = c.nest.result; bound = c.bound.result }) c.requires.short (omega (arith, none)) c.reads.invariant.parsed
    (sym c.is_in_first_test.ensures ∙ c.if-is_in_first_test.false) refl c.depth.ensures c.nest.ensures c.bound.ensures
