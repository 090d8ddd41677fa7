-- What is written by the steps that are remembered of a file.
use Rattle.std.specs.Prelude.{ℕ, Bool, List}
use Rattle.std.specs.List.{flat_map, list_any}
use Rattle.file_content.specs.Pages.{has_page}
use Rattle.role_steps.specs.declared.copies.Step.{Step}

-- the pages that these steps wrote, those of the first one first
abbrev pub pages_written : List Step → List ℕ
pages_written steps = flat_map (λ (x : Step). x.pages) steps

-- one of these steps wrote the page
abbrev pub is_written : List Step → ℕ → Bool
is_written steps page = list_any (λ (x : Step). has_page x.pages page) steps
