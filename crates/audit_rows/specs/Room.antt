-- The room that versions take at a site.
use Rattle.std.specs.Prelude.{ℕ, ◌==◌, List, filter, length, sum_by}
use Rattle.commit_graph.specs.declared.history.Version.{Version}
use Rattle.commit_graph.specs.Versions.{content_of}
use Rattle.file_content.specs.Pages.{pages_of}
use Rattle.promises.specs.Past.{Copy}

-- the pages of these versions that are of the group
abbrev pub pages_held : List Version → List Copy → ℕ → ℕ
pages_held h copies group = sum_by (λ (v : Copy). pages_of (length (content_of h v.file v.stamp))) (filter (λ (v : Copy). v.file.group == group) copies)
