use Rattle.ti_tool.proofs.IsItemCalledLemmas.{no_word_label}
use Rattle.ti_tool.proofs.item_name.place_after_word.Goals as goal

pub returns-in-None-index_of_label-clause-none : goal.returns-in-None-index_of_label-clause-none
returns-in-None-index_of_label-clause-none c = no_word_label c.args.name.now c.in-Some.label.now c.in-Some.kind c.in-Some.ensures.some c.in-None-index_of_label.ensures.none
