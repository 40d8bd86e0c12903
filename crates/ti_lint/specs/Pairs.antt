-- Texts of which one undoes what the other does.
use Rattle.std.specs.Borrow.{Bor}
use Rattle.std.specs.Prelude.{ℕ, List, [], ◌∷◌, codes}

-- the names of two texts
abbrev pub NamePair : Type 0
NamePair = List ℕ × List ℕ

-- the same as the code holds them
abbrev pub names_of : Bor (List ℕ) × Bor (List ℕ) → NamePair
names_of (first, second) = (first.now, second.now)

-- save and restore the cursor; margins on and off; the other character set in and out; the printer on and off; the keys to
-- send and back; the cursor very visible and normal
unfoldable pub all_pairs : List NamePair
all_pairs =
    (codes "sc", codes "rc") ∷ (codes "smam", codes "rmam") ∷ (codes "smacs", codes "rmacs") ∷
    (codes "mc5", codes "mc4") ∷ (codes "smkx", codes "rmkx") ∷ (codes "cvvis", codes "cnorm") ∷ []

-- the start and the end of a mode, which may be the same if the terminal toggles it: standout, underline, the screen of the
-- cursor, insert, delete, the meta key, flow control, labels, italics, wide, shadowed, lowered and raised letters, leftward and
-- upward, micro motion, and characters of the PC and scan codes
unfoldable pub all_toggles : List NamePair
all_toggles =
    (codes "smso", codes "rmso") ∷ (codes "smul", codes "rmul") ∷ (codes "smcup", codes "rmcup") ∷
    (codes "smir", codes "rmir") ∷ (codes "smdc", codes "rmdc") ∷ (codes "smm", codes "rmm") ∷
    (codes "smxon", codes "rmxon") ∷ (codes "smln", codes "rmln") ∷ (codes "sitm", codes "ritm") ∷
    (codes "swidm", codes "rwidm") ∷ (codes "sshm", codes "rshm") ∷ (codes "ssubm", codes "rsubm") ∷
    (codes "ssupm", codes "rsupm") ∷ (codes "slm", codes "rlm") ∷ (codes "sum", codes "rum") ∷
    (codes "smicm", codes "rmicm") ∷ (codes "smpch", codes "rmpch") ∷ (codes "smsc", codes "rmsc") ∷ []
