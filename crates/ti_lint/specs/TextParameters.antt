-- Which parameters are texts, by the name of the capability: after terminfo(5), user_caps(5) for `Cs` and `Ms`, and tmux(1) for `Hls`.
use Rattle.std.specs.Prelude.{ℕ, List, ◌||◌, codes}
use Rattle.std.specs.Str.{bytes_eq}
use Rattle.ti_lint.specs.declared.expected.TextParameters.{TextParameters}

abbrev pub text_parameters : List ℕ → TextParameters
text_parameters name = record {
  first = bytes_eq name (codes "Cs") || bytes_eq name (codes "Ms") || bytes_eq name (codes "Hls");
  second =
      bytes_eq name (codes "pfkey") || bytes_eq name (codes "pfloc") || bytes_eq name (codes "pfx") || bytes_eq name (codes "pfxl")
      || bytes_eq name (codes "pln") || bytes_eq name (codes "Ms") || bytes_eq name (codes "Hls");
  third = bytes_eq name (codes "pfxl");
}
