-- Worked rows: the block and the object of a remark.
use Rattle.std.proofs.Common.{◌≡◌, [], ◌∷◌, refl}
use Rattle.std.specs.Prelude.{codes}
use Rattle.ti_forms.specs.Blocks.{AreBlocks, AreObjects, HaveObjects, IsBlock, IsObject, subject}
use Rattle.ti_rules.specs.Remarks.{NoEvidence, OfEntry, OfText, Remark}
use Rattle.ti_rules.specs.declared.finding.Finding.TheVariants.{Runs}

-- a remark on `mrcup` of ncr160vppp
abbrev on_mrcup : Remark
on_mrcup = record { about = OfText (codes "mrcup") []; places = []; finding = Runs; evidence = NoEvidence }

pub blocks : (subject OfEntry ≡ codes "entry") × IsBlock (codes "f: ") on_mrcup (codes "f: mrcup\n  -\n  runs: x\n")
    × AreBlocks [] (on_mrcup ∷ []) (codes "mrcup\nruns") × AreBlocks [] [] []
blocks = (refl, (codes "  -\n  ", codes ": x\n", refl), (codes "mrcup\nruns", [], ([], [], refl), refl, refl), refl)

pub objects : IsObject on_mrcup (codes ",{\"finding\":\"runs\",\"fix\":\"x\"}") × AreObjects [] [] × HaveObjects [] (codes "[]")
objects = ((codes ",", codes ",\"fix\":\"x\"}", refl), refl, (codes "[", [], codes "]", refl, refl))
