-- What a survey asks of the lists that go with it.
--
--   HasFlags s t       t has a flag for each AS of the survey s
use Rattle.std.specs.Prelude.{ℕ, ◌≡◌, List, length}
use Rattle.findings.specs.declared.survey.Survey.{Survey}

abbrev pub HasFlags : Survey → List ℕ → Type 0
HasFlags s t = length t ≡ s.network.ases
