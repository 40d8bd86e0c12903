-- What a remark is about, its evidence, what is known before a token, and the texts of an entry, as the code holds them.
use Rattle.std.specs.Prelude.{ℕ, Bool, true, false, List, map}
use Rattle.ti_rules.specs.Remarks as spec
use Rattle.ti_rules.specs.declared.remark.About.{About}
use Rattle.ti_rules.specs.declared.remark.About.TheVariants as abouts
use Rattle.ti_rules.specs.declared.remark.Evidence.{Evidence}
use Rattle.ti_rules.specs.declared.remark.NamedText.{NamedText}
use Rattle.ti_rules.specs.declared.remark.Evidence.TheVariants as evidences
use Rattle.ti_rules.specs.declared.reported.Head.{Head}
use Rattle.ti_rules.specs.Reported as reports
use Rattle.ti_rules.specs.Controls as controls
use Rattle.ti_rules.specs.declared.sending.Sending.{Sending}
use Rattle.ti_rules.specs.declared.sending.Sending.TheVariants as sendings
use Rattle.ti_rules.specs.Crashes as crashes
use Rattle.ti_rules.specs.declared.crashes.Before.{Before}
use Rattle.ti_rules.specs.declared.subject.KnownText.{KnownText}
use Rattle.ti_rules.specs.Subjects as subjects
use Rattle.ti_rules.specs.declared.origin.Motion.{Motion}
use Rattle.ti_rules.specs.Origins as origins
use Rattle.ti_rules.specs.declared.sent.Trial.{Trial}
use Rattle.ti_rules.specs.Values as values
use Rattle.ti_values.specs.Sent.{texts_of}

abbrev pub about_held : About → spec.About
about_held abouts.Entry = spec.OfEntry
about_held (abouts.Name name) = spec.OfName name.now
about_held (abouts.Text subject) = spec.OfText subject.name.now subject.text.now
about_held (abouts.Two one other) = spec.OfTwo one.name.now one.text.now other.name.now other.text.now

abbrev pub head_held : Head → reports.Head
head_held h = record { about = about_held h.about; word = h.word.now }

abbrev pub heads_held : List Head → List reports.Head
heads_held heads = map head_held heads

abbrev pub evidence_held : {A : Type 0} → Evidence A → spec.Evidence
evidence_held evidences.None = spec.NoEvidence
evidence_held (evidences.Last parameter) = spec.Last parameter
evidence_held (evidences.Value value) = spec.Value value
evidence_held (evidences.Parameters set) = spec.Parameters set
evidence_held (evidences.For value) = spec.For value
evidence_held (evidences.Sent value sent) = spec.Sent value sent.items
evidence_held (evidences.SentForTwo one other sent) = spec.SentForTwo one other sent.items
evidence_held (evidences.Attribute name set) = spec.Attribute name.now set
evidence_held (evidences.Lacking name set sent text) = spec.Lacking name.now set sent.items text.items
evidence_held (evidences.Function words) = spec.Function words.items
evidence_held (evidences.Named names) = spec.Named names.items
evidence_held (evidences.Count count) = spec.Count count

abbrev pub before_held : {A : Type 0} → Before A → crashes.Before
before_held b = record { numbers = b.numbers.items; parameter = b.parameter }

abbrev pub trial_held : {A : Type 0} → Trial A → values.Trial
trial_held t =
    record { name = t.subject.name.now; text = t.subject.text.now; tried = t.tried.now; sent = texts_of t.sent.now }

abbrev pub motion_held : Motion → origins.Motion
motion_held m = record { name = m.subject.name.now; text = m.subject.text.now; sent = m.sent.now }

abbrev pub sending_held : Sending → controls.Sending
sending_held (sendings.Expanded text) = controls.Expanded text.now
sending_held (sendings.AsItStands text) = controls.AsItStands text.now

-- a string that is given parameters, or is sent as it stands
abbrev pub sending_as : Bool → List ℕ → controls.Sending
sending_as true text = controls.Expanded text
sending_as false text = controls.AsItStands text

abbrev pub text_held : KnownText → subjects.KnownText
text_held t =
    record { name = t.subject.name.now; text = t.subject.text.now; class = t.class; standard = t.standard }

abbrev pub texts_held : List KnownText → List subjects.KnownText
texts_held texts = map text_held texts

abbrev pub unknown_held : NamedText → subjects.UnknownText
unknown_held t = record { name = t.name.now; text = t.text.now }

abbrev pub unknowns_held : List NamedText → List subjects.UnknownText
unknowns_held texts = map unknown_held texts
