-- What the differences of the code say.
use Rattle.ti_json.specs.Rows.{content_value, topic_value}
use Rattle.ti_listing.specs.Differences.{DifferenceValue}
use Rattle.ti_listing.specs.declared.difference.Difference.{Difference}

abbrev pub difference_value : Difference → DifferenceValue
difference_value d = (topic_value d.topic, content_value d.first, content_value d.other)
