-- What the programs print alike.
use Rattle.std.specs.Prelude.{ℕ, ◌/◌, ◌%◌, cond, List, [], ◌∷◌, ◌++◌, eqb, get_or}
use Rattle.text.specs.Ascii.{ascii}
use Rattle.text.specs.Decimal.{decimal}

-- The names of the day types in bit order.
abbrev pub day_names : List (List ℕ)
day_names = ascii "Sun" ∷ ascii "Mon" ∷ ascii "Tue" ∷ ascii "Wed" ∷ ascii "Thu" ∷ ascii "Fri" ∷ ascii "Sat" ∷ ascii "Hol" ∷ []

-- A day's name, and `-` where the day is none of the eight: nothing is decided.
unfoldable pub day_name : ℕ → List ℕ
day_name day = get_or day_names day (ascii "-")

-- A blank, and a number behind it.
abbrev pub blank_and_decimal : ℕ → List ℕ
blank_and_decimal n = ascii " " ++ decimal n

-- A blank, and a number of ticks in seconds with one decimal.
unfoldable pub blank_and_seconds : ℕ → List ℕ
blank_and_seconds ticks = blank_and_decimal (ticks / 10) ++ (ascii "." ++ decimal (ticks % 10))

-- `refused N`, where there is no place to name.
unfoldable pub refused_line : ℕ → List ℕ
refused_line refusal = ascii "refused " ++ (decimal refusal ++ ascii "\n")

-- "A refused file prints only `refused N at P`."
unfoldable pub refusal_line : ℕ → ℕ → List ℕ
refusal_line refusal place = ascii "refused " ++ (decimal refusal ++ (ascii " at " ++ (decimal place ++ ascii "\n")))

-- `1 argument, 2 wanted`, `3 arguments, at most 1 wanted`.
unfoldable pub arguments_text : ℕ → List ℕ
arguments_text count = cond (eqb count 1) (ascii " argument, ") (ascii " arguments, ")

unfoldable pub wanted_line : ℕ → List ℕ → List ℕ
wanted_line count wanted = decimal count ++ (arguments_text count ++ (wanted ++ ascii " wanted\n"))
