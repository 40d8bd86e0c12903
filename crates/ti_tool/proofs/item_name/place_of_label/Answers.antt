use Rattle.ti_tool.proofs.IsItemCalledLemmas.{no_label_of_any, no_label_of_text}
use Rattle.ti_tool.proofs.item_name.place_of_label.Goals as goal

pub returns-in-Texts-clause-none : goal.returns-in-Texts-clause-none
returns-in-Texts-clause-none c = no_label_of_text c.args.names c.in-Texts.field-0 c.args.name.now c.in-Texts.is c.in-None.ensures.none

pub returns-in-All-clause-none : goal.returns-in-All-clause-none
returns-in-All-clause-none c = no_label_of_any c.args.names c.args.name.now c.place_after_word.result c.in-All.is c.in-None.ensures.none c.place_after_word.ensures.none
