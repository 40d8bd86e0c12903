use Rattle.std.proofs.Common.{◌≡◌, ◌∙◌, ◌++◌, ℕ, List, ap, drop, length, refl, sym, subst, take}
use Rattle.std.proofs.Math.Seq.{take-append_seam}
use Rattle.ti_cap.specs.declared.language.Token.{Token}
use Rattle.ti_parser.specs.Paths.{Known, KnowsOn, Point, written}
use Rattle.ti_parser.specs.inner.Receivers.{CoverMore}
use Rattle.ti_parser.specs.declared.receiver.Receiver.{Receiver}
use Rattle.ti_parser.specs.declared.tops.Tops.{Tops}
use Rattle.ti_parser.proofs.KnowsLemmas.{knows_close, knows_else, knows_then, knows_written, others_stay}
use Rattle.ti_parser.proofs.LeadLemmas.{lead_more}
use Rattle.ti_parser.proofs.paths.Paths.take.Goals as goal

pub returns-in_ok-test-in-CondThen : goal.returns-in_ok-test-in-CondThen
returns-in_ok-test-in-CondThen g c =
    let old = c.args.self.now in
    let new = c.test.new.self in
    let before : Known = record { here = record { parsers = old.here.parsers.items; tops = old.here.tops }; opens = old.opens.items; sent = old.sent.items } in
    let after : Known = record { here = record { parsers = new.here.parsers.items; tops = new.here.tops }; opens = new.opens.items; sent = new.sent.items } in
    let P : Token → Type 0 = λ x. KnowsOn c.args.reception x before after in
    let with_parsers : List Receiver → Point = λ x. record { parsers = x; tops = new.here.tops } in
    let with_tops : Tops → Point = λ x. record { parsers = old.here.parsers.items; tops = x } in
    subst P (sym c.in-CondThen.is)
    (knows_then c.args.reception before after c.in_ok-test-in-CondThen.ensures.opens
    (ap with_parsers c.in_ok-test-in-CondThen.ensures.parsers ∙ ap with_tops c.in_ok-test-in-CondThen.ensures.tops) c.in_ok-test-in-CondThen.ensures.sent)

pub returns-in_ok-turn-in-CondElse : goal.returns-in_ok-turn-in-CondElse
returns-in_ok-turn-in-CondElse g c =
    let old = c.args.self.now in
    let new = c.turn.new.self in
    let before : Known = record { here = record { parsers = old.here.parsers.items; tops = old.here.tops }; opens = old.opens.items; sent = old.sent.items } in
    let after : Known = record { here = record { parsers = new.here.parsers.items; tops = new.here.tops }; opens = new.opens.items; sent = new.sent.items } in
    let P : Token → Type 0 = λ x. KnowsOn c.args.reception x before after in
    subst P (sym c.in-CondElse.is) (knows_else c.args.reception before after c.in_ok-turn-in-CondElse.ensures.opens c.in_ok-turn-in-CondElse.ensures.sent)

pub returns-in_ok-leave-in-CondClose : goal.returns-in_ok-leave-in-CondClose
returns-in_ok-leave-in-CondClose g c =
    let old = c.args.self.now in
    let new = c.leave.new.self in
    let before : Known = record { here = record { parsers = old.here.parsers.items; tops = old.here.tops }; opens = old.opens.items; sent = old.sent.items } in
    let after : Known = record { here = record { parsers = new.here.parsers.items; tops = new.here.tops }; opens = new.opens.items; sent = new.sent.items } in
    let P : Token → Type 0 = λ x. KnowsOn c.args.reception x before after in
    subst P (sym c.in-CondClose.is) (knows_close c.args.reception before after c.in_ok-leave-in-CondClose.ensures.opens c.in_ok-leave-in-CondClose.ensures.sent)

pub returns-in_ok-parsers-in_default : goal.returns-in_ok-parsers-in_default
returns-in_ok-parsers-in_default g c =
    let old = c.args.self.now in
    let vector = c.in_ok-parsers-in_default.parsers in
    let noted = c.note_places.new.parsers in
    let parsers = take vector.len (noted ++ drop (length noted) vector.items) in
    let IsTaken : ℕ → Type 0 = λ n. take n (noted ++ drop (length noted) vector.items) ≡ noted in
    let same : parsers ≡ noted = subst IsTaken (c.note_places.ensures.len ∙ c.deref_mut.ensures.len) (take-append_seam noted (drop (length noted) vector.items)) in
    let From : List Receiver → Type 0 = λ few. CoverMore few noted in
    let To : List Receiver → Type 0 = λ many. CoverMore vector.items many in
    let more : CoverMore vector.items parsers = subst To (sym same) (subst From c.deref_mut.ensures.value c.note_places.ensures.more) in
    let sent = c.write.new.sent.items in
    let before : Known = record { here = record { parsers = old.here.parsers.items; tops = old.here.tops }; opens = old.opens.items; sent = old.sent.items } in
    let after : Known = record { here = record { parsers = parsers; tops = c.after.result }; opens = old.opens.items; sent = sent } in
    knows_written c.args.reception c.args.token.now before after
    (others_stay c.args.token.now c.in_default.not-CondOpen c.in_default.not-CondThen c.in_default.not-CondElse c.in_default.not-CondClose)
    refl c.in_ok-parsers-in_default.ensures.kept
    (λ s texts tops. lead_more c.args.reception (written c.args.token.now s) old.here.parsers.items vector.items parsers sent sent
    (c.in_ok-parsers-in_default.ensures.leads s texts tops) (λ function h. h) more)
    c.after.ensures
