use Rattle.std.proofs.Common.{◌≡◌, ◌∙◌, ◌++◌, OnOk, subst, sym}
use Rattle.ti_sink.proofs.PagesLemmas.{plain_as_page}
use Rattle.ti_sink.proofs.page.push_bytes.Goals as goal

pub returns-then-are_plain-clause-text : goal.returns-then-are_plain-clause-text
returns-then-are_plain-clause-text g c =
    subst (λ chars. OnOk c.push_plain.result (c.push_plain.new.out.items ≡ c.args.out.now.items ++ chars))
    (sym (plain_as_page c.args.bytes.now (sym c.are_plain.ensures ∙ c.if-are_plain.true))) c.push_plain.ensures.text
