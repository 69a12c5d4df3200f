-- Reports worked by hand, on the definitions: what is printed for an input, in bytes.
use Rattle.std.specs.Prelude.{List, [], ◌∷◌}
use Rattle.rules.specs.Checks.{base_limits}
use Rattle.rules.specs.Worked.{Example, row}
use Rattle.report.specs.Report.{report_of}

unfoldable pub examples : List Example
examples =
    -- the worked example of five ASes, to 40, to the byte
    row (report_of base_limits (52 ∷ 48 ∷ 10 ∷ 49 ∷ 48 ∷ 124 ∷ 50 ∷ 48 ∷ 124 ∷ 45 ∷ 49 ∷ 10 ∷ 50 ∷ 48 ∷ 124 ∷ 51 ∷ 48 ∷ 124 ∷ 45 ∷ 49 ∷ 10 ∷ 51 ∷ 48 ∷ 124 ∷ 52 ∷ 48 ∷ 124 ∷ 45 ∷ 49 ∷ 10 ∷ 49 ∷ 48 ∷ 124 ∷ 52 ∷ 48 ∷ 124 ∷ 48 ∷ 10 ∷ 49 ∷ 48 ∷ 124 ∷ 53 ∷ 48 ∷ 124 ∷ 45 ∷ 49 ∷ 10 ∷ [])) (100 ∷ 101 ∷ 115 ∷ 116 ∷ 105 ∷ 110 ∷ 97 ∷ 116 ∷ 105 ∷ 111 ∷ 110 ∷ 32 ∷ 52 ∷ 48 ∷ 10 ∷ 99 ∷ 117 ∷ 115 ∷ 116 ∷ 111 ∷ 109 ∷ 101 ∷ 114 ∷ 45 ∷ 114 ∷ 105 ∷ 110 ∷ 103 ∷ 32 ∷ 110 ∷ 111 ∷ 10 ∷ 106 ∷ 111 ∷ 105 ∷ 110 ∷ 101 ∷ 100 ∷ 32 ∷ 121 ∷ 101 ∷ 115 ∷ 10 ∷ 49 ∷ 48 ∷ 32 ∷ 49 ∷ 32 ∷ 51 ∷ 32 ∷ 50 ∷ 48 ∷ 10 ∷ 50 ∷ 48 ∷ 32 ∷ 49 ∷ 32 ∷ 50 ∷ 32 ∷ 51 ∷ 48 ∷ 10 ∷ 51 ∷ 48 ∷ 32 ∷ 49 ∷ 32 ∷ 49 ∷ 32 ∷ 52 ∷ 48 ∷ 10 ∷ 52 ∷ 48 ∷ 32 ∷ 49 ∷ 32 ∷ 48 ∷ 32 ∷ 52 ∷ 48 ∷ 10 ∷ 53 ∷ 48 ∷ 32 ∷ 51 ∷ 32 ∷ 52 ∷ 32 ∷ 49 ∷ 48 ∷ 10 ∷ 113 ∷ 117 ∷ 105 ∷ 101 ∷ 116 ∷ 32 ∷ 49 ∷ 48 ∷ 10 ∷ [])
    -- empty input, and a comment first
    ∷ row (report_of base_limits []) (114 ∷ 101 ∷ 102 ∷ 117 ∷ 115 ∷ 101 ∷ 100 ∷ 32 ∷ 57 ∷ 32 ∷ 48 ∷ 10 ∷ [])
    ∷ row (report_of base_limits (35 ∷ 10 ∷ [])) (114 ∷ 101 ∷ 102 ∷ 117 ∷ 115 ∷ 101 ∷ 100 ∷ 32 ∷ 57 ∷ 32 ∷ 48 ∷ 10 ∷ [])
    -- a destination alone; one LF behind it; a link that names AS 0
    ∷ row (report_of base_limits (52 ∷ 48 ∷ [])) (114 ∷ 101 ∷ 102 ∷ 117 ∷ 115 ∷ 101 ∷ 100 ∷ 32 ∷ 55 ∷ 32 ∷ 48 ∷ 10 ∷ [])
    ∷ row (report_of base_limits (52 ∷ 48 ∷ 10 ∷ 10 ∷ [])) (114 ∷ 101 ∷ 102 ∷ 117 ∷ 115 ∷ 101 ∷ 100 ∷ 32 ∷ 57 ∷ 32 ∷ 49 ∷ 10 ∷ [])
    ∷ row (report_of base_limits (52 ∷ 48 ∷ 10 ∷ 49 ∷ 124 ∷ 50 ∷ 124 ∷ 48 ∷ 10 ∷ 48 ∷ 124 ∷ 50 ∷ 124 ∷ 48 ∷ [])) (114 ∷ 101 ∷ 102 ∷ 117 ∷ 115 ∷ 101 ∷ 100 ∷ 32 ∷ 50 ∷ 32 ∷ 49 ∷ 10 ∷ [])
    ∷ []
