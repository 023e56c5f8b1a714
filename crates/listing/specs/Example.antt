-- The worked example of paper 01, "The listing".
use Rattle.std.specs.Prelude.{List, [], ◌∷◌, ◌++◌, ℕ}

-- `!E0000` CR LF, space, `!E00G0` CR LF, `!E0001` CR LF
abbrev pub example_input : List ℕ
example_input =
    (33 ∷ 69 ∷ 48 ∷ 48 ∷ 48 ∷ 48 ∷ 13 ∷ 10 ∷ [])
    ++ (32 ∷ 33 ∷ 69 ∷ 48 ∷ 48 ∷ 71 ∷ 48 ∷ 13 ∷ 10 ∷ [])
    ++ (33 ∷ 69 ∷ 48 ∷ 48 ∷ 48 ∷ 49 ∷ 13 ∷ 10 ∷ [])

-- the lines: the header; E, 0, 8; E, 17, 8; end, 25, 9
abbrev pub example_output : List ℕ
example_output =
    (107 ∷ 105 ∷ 110 ∷ 100 ∷ 9 ∷ 112 ∷ 108 ∷ 97 ∷ 99 ∷ 101 ∷ 9 ∷ 108 ∷ 101 ∷ 110 ∷ 103 ∷ 116 ∷ 104 ∷ 10 ∷ [])
    ++ (69 ∷ 9 ∷ 48 ∷ 9 ∷ 56 ∷ 10 ∷ [])
    ++ (69 ∷ 9 ∷ 49 ∷ 55 ∷ 9 ∷ 56 ∷ 10 ∷ [])
    ++ (101 ∷ 110 ∷ 100 ∷ 9 ∷ 50 ∷ 53 ∷ 9 ∷ 57 ∷ 10 ∷ [])
