-- Runs of parsers that differ in the values of numbers alone: one run without values covers both.
use Rattle.std.proofs.Common.{◌≡◌, ℕ, List, [], ◌∷◌, ◌++◌, Bool, true, false, map, refl, sym, ◌∙◌, ap}
use Rattle.std.specs.Prelude.{if◌then◌else◌, Option, Some, None}
use Rattle.std.proofs.lemmas.List.{map-append}
use Rattle.ti_parser.specs.Covers.{CoverNumbers, CoversConfiguration, CoversFunction, CoversNumber}
use Rattle.ti_parser.specs.Functions.{functions_of, listed}
use Rattle.ti_parser.specs.Laws.{blurred, blurred_configuration, blurred_function}
use Rattle.ti_parser.specs.Machine.{Run, Step, run, step}
use Rattle.ti_parser.specs.Numbers.{forgotten, with_digit}
use Rattle.ti_parser.specs.declared.configuration.Configuration.{Configuration}
use Rattle.ti_parser.specs.declared.function.Function.{Function}
use Rattle.ti_parser.specs.declared.number.FunctionNumber.{FunctionNumber}
use Rattle.ti_parser.specs.declared.number.FunctionNumber.TheVariants.{Absent, Known, Large, Any}
use Rattle.ti_parser.specs.declared.reading.Reading.{Reading}
use Rattle.ti_parser.proofs.CoversLemmas.{CoversOption, CoversStep, covers_configuration, covers_step}
use Rattle.ti_parser.proofs.SetLemmas.{covers_shape}

-- ---- what covers another differs from it in values alone

blurred-if : (b : Bool) (value : ℕ) → blurred (if b then Known value else Large) ≡ Large
blurred-if true value = refl
blurred-if false value = refl

pub blurred-digit : (n : FunctionNumber) (digit : ℕ) → blurred (with_digit n digit) ≡ Large
blurred-digit Absent digit = refl
blurred-digit (Known value) digit = blurred-if _ _
blurred-digit Large digit = refl
blurred-digit Any digit = refl

same_blur : (k n : FunctionNumber) → CoversNumber k n → blurred k ≡ blurred n
same_blur Any Absent h = absurd h
same_blur Any (Known value) h = refl
same_blur Any Large h = refl
same_blur Any Any h = refl
same_blur Absent n h = ap blurred h
same_blur (Known v) n h = ap blurred h
same_blur Large n h = ap blurred h

same_blurs : (ks ns : List FunctionNumber) → CoverNumbers ks ns → map blurred ks ≡ map blurred ns
same_blurs [] [] h = refl
same_blurs (k ∷ ks) (n ∷ ns) h = ap (λ x. x ∷ map blurred ks) (same_blur k n h.0) ∙ ap (λ xs. blurred n ∷ xs) (same_blurs ks ns h.1)
same_blurs [] (n ∷ ns) h = absurd h
same_blurs (k ∷ ks) [] h = absurd h

same_function_blur : (k f : Function) → CoversFunction k f → blurred_function k ≡ blurred_function f
same_function_blur k f h =
    let of : List FunctionNumber → Function = λ ns. record f { numbers = ns } in
    ap blurred_function h.same ∙ ap of (same_blurs k.numbers f.numbers h.numbers)

same_configuration_blur : (k c : Configuration) → CoversConfiguration k c → blurred_configuration k ≡ blurred_configuration c
same_configuration_blur k c h =
    let of : List FunctionNumber → FunctionNumber → Configuration = λ ns n. record c { underway = record c.underway { numbers = ns }; number = n } in
    ap blurred_configuration h.same ∙ ap (λ ns. of ns (blurred k.number)) (same_blurs k.underway.numbers c.underway.numbers h.numbers)
    ∙ ap (of (map blurred c.underway.numbers)) (same_blur k.number c.number h.number)

same_option_blur : (k f : Option Function) → CoversOption k f → map blurred_function (listed k) ≡ map blurred_function (listed f)
same_option_blur None None h = refl
same_option_blur (Some k) (Some f) h = ap (λ x. x ∷ []) (same_function_blur k f h)
same_option_blur None (Some f) h = absurd h
same_option_blur (Some k) None h = absurd h

same_output_blur : (k s : Step) → CoversStep k s → map blurred_function (functions_of k.output) ≡ map blurred_function (functions_of s.output)
same_output_blur k s h =
    map-append blurred_function (listed k.output.ended) (listed k.output.function)
    ∙ ap (λ fs. fs ++ map blurred_function (listed k.output.function)) (same_option_blur k.output.ended s.output.ended h.ended)
    ∙ ap (λ fs. map blurred_function (listed s.output.ended) ++ fs) (same_option_blur k.output.function s.output.function h.function)
    ∙ sym (map-append blurred_function (listed s.output.ended) (listed s.output.function))

-- ---- runs

pub record LikeRuns (r s : Run) : Type 0 where
  pub functions : map blurred_function r.functions ≡ map blurred_function s.functions
  pub configuration : blurred_configuration r.configuration ≡ blurred_configuration s.configuration

covered_runs : (reading : Reading) (bytes : List ℕ) (k c : Configuration) → CoversConfiguration k c → LikeRuns (run reading k bytes) (run reading c bytes)
unfolding run
covered_runs reading [] k c h = record { functions = refl; configuration = same_configuration_blur k c h }
covered_runs reading (byte ∷ bytes) k c h =
    let one : CoversStep (step reading k byte) (step reading c byte) = covers_step reading byte k c h in
    let rest : LikeRuns (run reading (step reading k byte).configuration bytes) (run reading (step reading c byte).configuration bytes)
    = covered_runs reading bytes (step reading k byte).configuration (step reading c byte).configuration one.configuration in
    record {
      functions = map-append blurred_function (functions_of (step reading k byte).output) (run reading (step reading k byte).configuration bytes).functions
          ∙ ap (λ fs. fs ++ map blurred_function (run reading (step reading k byte).configuration bytes).functions) (same_output_blur (step reading k byte) (step reading c byte) one)
          ∙ ap (λ fs. map blurred_function (functions_of (step reading c byte).output) ++ fs) rest.functions
          ∙ sym (map-append blurred_function (functions_of (step reading c byte).output) (run reading (step reading c byte).configuration bytes).functions);
      configuration = rest.configuration;
    }

-- a configuration of which only whether numbers came is kept
shape : Configuration → Configuration
shape c = record c { underway = record c.underway { numbers = map forgotten c.underway.numbers }; number = forgotten c.number }

forgotten-blurred : (n : FunctionNumber) → forgotten (blurred n) ≡ forgotten n
forgotten-blurred Absent = refl
forgotten-blurred (Known value) = refl
forgotten-blurred Large = refl
forgotten-blurred Any = refl

forgotten-all : (ns : List FunctionNumber) → map forgotten (map blurred ns) ≡ map forgotten ns
forgotten-all [] = refl
forgotten-all (n ∷ ns) = ap (λ x. x ∷ map forgotten (map blurred ns)) (forgotten-blurred n) ∙ ap (λ xs. forgotten n ∷ xs) (forgotten-all ns)

shape-blurred : (c : Configuration) → shape (blurred_configuration c) ≡ shape c
unfolding shape
shape-blurred c =
    let of : List FunctionNumber → FunctionNumber → Configuration = λ ns n. record c { underway = record c.underway { numbers = ns }; number = n } in
    ap (λ ns. of ns (forgotten (blurred c.number))) (forgotten-all c.underway.numbers) ∙ ap (of (map forgotten c.underway.numbers)) (forgotten-blurred c.number)

shape_runs : (reading : Reading) (bytes : List ℕ) (c : Configuration) → LikeRuns (run reading (shape c) bytes) (run reading c bytes)
unfolding shape
shape_runs reading bytes c =
    covered_runs reading bytes (shape c) c (covers_shape c c (forgotten c.number) (map forgotten c.underway.numbers) refl refl (covers_configuration c))

pub like_runs : (reading : Reading) (bytes : List ℕ) (c d : Configuration) → blurred_configuration c ≡ blurred_configuration d → LikeRuns (run reading c bytes) (run reading d bytes)
like_runs reading bytes c d h =
    let a = shape_runs reading bytes c in
    let b = shape_runs reading bytes d in
    let same : shape c ≡ shape d = sym (shape-blurred c) ∙ ap shape h ∙ shape-blurred d in
    record {
      functions = sym a.functions ∙ ap (λ x. map blurred_function (run reading x bytes).functions) same ∙ b.functions;
      configuration = sym a.configuration ∙ ap (λ x. blurred_configuration (run reading x bytes).configuration) same ∙ b.configuration;
    }
