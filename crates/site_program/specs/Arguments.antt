-- What a program's arguments ask of it: `PROGRAM [SITE]` or `PROGRAM --help`.
use Rattle.std.specs.Prelude.{ℕ, Bool, true, false, cond, List, [], ◌∷◌, eqb, length, get_or}
use Rattle.text.specs.Ascii.{ascii}
use Rattle.site_program.specs.declared.arguments.Asked.{Asked}
use Rattle.site_program.specs.declared.arguments.Asked.TheVariants.{Default, Named, Help, NoName, NoOption, TooMany}

-- Whether two texts are the same.
abbrev pub same : List ℕ → List ℕ → Bool
same [] [] = true
same [] (y ∷ ys) = false
same (x ∷ xs) [] = false
same (x ∷ xs) (y ∷ ys) = cond (eqb x y) (same xs ys) false

-- `--help`; what else begins with `-`, 45, is no option; an empty argument is no name; all else is the site file's name.
unfoldable pub asked_by_one : List ℕ → Asked
asked_by_one argument =
    cond (same argument (ascii "--help"))
    Help
    (cond (eqb (length argument) 0)
    NoName
    (cond (eqb (get_or argument 0 0) 45) NoOption Named))

-- Of count arguments, the first of which is given.
unfoldable pub asked_by : ℕ → List ℕ → Asked
asked_by count first = cond (eqb count 0) Default (cond (eqb count 1) (asked_by_one first) TooMany)
