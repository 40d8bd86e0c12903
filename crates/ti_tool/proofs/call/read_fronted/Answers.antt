use Rattle.ti_tool.proofs.FrontLemmas.{front_fed, more_fed}
use Rattle.ti_tool.proofs.call.read_fronted.Goals as goal

pub returns-in_err-feed-clause-fed : goal.returns-in_err-feed-clause-fed
returns-in_err-feed-clause-fed g c = front_fed _ _ _ _ _ _ _ c.read_up_to-came.ensures.taken c.new-first.ensures c.as_slice-bytes.ensures.value c.requires c.feed.ensures.fed

pub returns-in_err-came-clause-fed : goal.returns-in_err-came-clause-fed
returns-in_err-came-clause-fed g c = front_fed _ _ _ _ _ _ _ c.read_up_to-came.ensures.taken c.new-first.ensures c.as_slice-bytes.ensures.value c.requires c.feed.ensures.fed

pub returns-then-is_full-clause-fed : goal.returns-then-is_full-clause-fed
returns-then-is_full-clause-fed g c =
    more_fed _ _ _ _ _ _ _ c.read_up_to-came.ensures.taken c.new-first.ensures c.as_slice-bytes.ensures.value c.requires c.feed.ensures.fed _ _ c.read_from.ensures.fed

pub returns-else-is_full-clause-fed : goal.returns-else-is_full-clause-fed
returns-else-is_full-clause-fed g c = front_fed _ _ _ _ _ _ _ c.read_up_to-came.ensures.taken c.new-first.ensures c.as_slice-bytes.ensures.value c.requires c.feed.ensures.fed
