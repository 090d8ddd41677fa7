-- The choice among the pulls of a site, of which the pulls alone change on the way.
use Rattle.std.proofs.Common.{◌≡◌, ℕ, ◌+◌, ◌-◌, ◌<◌, Bool, true, false, List, length, drop, slice_get, Option, None, Some, cond, refl, sym, ap, ◌∙◌, subst, arith}
use Rattle.std.specs.Option.{option_map}
use Rattle.locus_ids.specs.declared.ids.FileId.{FileId}
use Rattle.keyed_tables.specs.Rising.{Rising}
use Rattle.role_steps.specs.Tables.{row, without_row}
use Rattle.role_steps.specs.Views.{SiteView, file_key}
use Rattle.role_steps.specs.Adoption.{is_ready}
use Rattle.role_steps.specs.Pulling.{pull_key}
use Rattle.role_steps.specs.declared.pulls.Pull.{Pull}
use Rattle.propagation.specs.Choosing.{LooksAt, chooses, without_chosen}
use Rattle.propagation.specs.declared.adopting.Look.{Look}
use Rattle.propagation.specs.declared.adopting.Verdict.{Verdict}
use Rattle.propagation.specs.declared.adopting.Verdict.TheVariants as verdict
use Rattle.propagation.proofs.Choices.{adopt_now, drop_next, fewer_gone, wait_next}
use Rattle.site_packs.specs.Packs.{AreShown}
use Rattle.site_node.specs.Adopting.{ShowsPull, choice_at, fits_own_in}
use Rattle.site_node.specs.Views.{view_of}
use Rattle.site_node.specs.declared.choosing.Fate.{Fate}
use Rattle.site_node.specs.declared.choosing.Fate.TheVariants as fate
use Rattle.site_node.specs.declared.choosing.PullSeen.{PullSeen}
use Rattle.site_node.specs.declared.node.SiteNode.{SiteNode}

abbrev verdict_as : Fate → Verdict
verdict_as fate.Wait = verdict.Wait
verdict_as fate.Drop = verdict.Drop
verdict_as fate.Adopt = verdict.Adopt

abbrev look_of : PullSeen → Look
look_of s = record { file = s.file; verdict = verdict_as s.fate }

judged : (a b : Bool) → verdict_as (cond a (cond b fate.Adopt fate.Drop) fate.Wait) ≡ cond a (cond b verdict.Adopt verdict.Drop) verdict.Wait
judged true true = refl
judged true false = refl
judged false b = refl

looks : (v : SiteView) (place : ℕ) (seen : PullSeen) → ShowsPull v place seen → LooksAt (is_ready v) (fits_own_in v) v.pulls place (look_of seen)
looks v place seen s = record { pull = s.pull; stands = s.stands; file = s.file; verdict = ap verdict_as s.fate ∙ judged (is_ready v s.pull) (fits_own_in v s.pull); rising = s.rising }

pub record Choosing (old now : SiteNode) (place : ℕ) (image : List ℕ) : Type 0 where
  pub rest : now ≡ record old { pulls = now.pulls }
  pub choice : chooses (is_ready (view_of old image)) (fits_own_in (view_of old image)) (drop place now.pulls) now.pulls ≡ choice_at (view_of old image)

pub choosing : (old now : SiteNode) (place : ℕ) (image : List ℕ) → now ≡ record old { pulls = now.pulls } → chooses (is_ready (view_of old image)) (fits_own_in (view_of old image)) (drop place now.pulls) now.pulls ≡ choice_at (view_of old image) → Choosing old now place image
choosing old now place image r c = record { rest = r; choice = c }

pub shown_now : (old now : SiteNode) (image : List ℕ) → now ≡ record old { pulls = now.pulls } → AreShown old.packs.packs image → AreShown now.packs.packs image
shown_now old now image r h = subst (λ (n : SiteNode). AreShown n.packs.packs image) (sym r) h

looks_old : (old now : SiteNode) (place : ℕ) (image : List ℕ) (seen : PullSeen) → now ≡ record old { pulls = now.pulls } → ShowsPull (view_of now image) place seen → LooksAt (is_ready (view_of old image)) (fits_own_in (view_of old image)) now.pulls place (look_of seen)
looks_old old now place image seen r s = subst (λ (n : SiteNode). LooksAt (is_ready (view_of n image)) (fits_own_in (view_of n image)) now.pulls place (look_of seen)) r (looks (view_of now image) place seen s)

pub waited : (old now : SiteNode) (place : ℕ) (image : List ℕ) (seen : PullSeen) → Choosing old now place image → ShowsPull (view_of now image) place seen → seen.fate ≡ fate.Wait
    → chooses (is_ready (view_of old image)) (fits_own_in (view_of old image)) (drop (place + 1) now.pulls) now.pulls ≡ choice_at (view_of old image)
waited old now place image seen k s f = wait_next (is_ready (view_of old image)) (fits_own_in (view_of old image)) now.pulls place (look_of seen) (choice_at (view_of old image)) (looks_old old now place image seen k.rest s) (ap verdict_as f) k.choice

pub dropped_next : (old now : SiteNode) (place : ℕ) (image : List ℕ) (seen : PullSeen) (pulls : List Pull) → Choosing old now place image → ShowsPull (view_of now image) place seen → seen.fate ≡ fate.Drop → pulls ≡ without_row pull_key (file_key seen.file) now.pulls
    → chooses (is_ready (view_of old image)) (fits_own_in (view_of old image)) (drop place pulls) pulls ≡ choice_at (view_of old image)
dropped_next old now place image seen pulls k s f p = drop_next (is_ready (view_of old image)) (fits_own_in (view_of old image)) now.pulls pulls place (look_of seen) (choice_at (view_of old image)) (looks_old old now place image seen k.rest s) (ap verdict_as f) p k.choice

pub taken_now : (old now : SiteNode) (place : ℕ) (image : List ℕ) (seen : PullSeen) (pulls : List Pull) (taken : Option Pull) → Choosing old now place image → ShowsPull (view_of now image) place seen → seen.fate ≡ fate.Adopt → taken ≡ row pull_key (file_key seen.file) now.pulls
    → pulls ≡ without_row pull_key (file_key seen.file) now.pulls → (taken ≡ (choice_at (view_of old image)).chosen) × (pulls ≡ without_chosen (choice_at (view_of old image)))
taken_now old now place image seen pulls taken k s f t p = adopt_now (is_ready (view_of old image)) (fits_own_in (view_of old image)) now.pulls pulls place (look_of seen) (choice_at (view_of old image)) taken (looks_old old now place image seen k.rest s) (ap verdict_as f) t p k.choice

abbrev with_left : SiteNode → List Pull → SiteNode
with_left n pulls = record n { pulls = pulls }

pub left_so : (old now : SiteNode) (pulls : List Pull) → now ≡ record old { pulls = now.pulls } → record now { pulls = pulls } ≡ record old { pulls = pulls }
left_so old now pulls r = ap (λ (n : SiteNode). with_left n pulls) r

-- ---- a pull that is dropped leaves fewer ----

seen_file : (p : Pull) (file : FileId) → ◌≡◌ {A = Option FileId} (Some p.file) (Some file) → p.file ≡ file
seen_file p file e = cc

fewer_at : (pulls left : List Pull) (place : ℕ) (file : FileId) (o : Option Pull) → slice_get pulls place ≡ o → Rising pull_key pulls → option_map (λ (p : Pull). p.file) o ≡ Some file → left ≡ without_row pull_key (file_key file) pulls → place < length pulls → length left - place < length pulls - place
fewer_at pulls left place file None s r f l h = absurd (cc)
fewer_at pulls left place file (Some p) s r f l h =
    let key : file_key p.file ≡ file_key file = ap file_key (seen_file p file f) in
    let fewer : length (without_row pull_key (pull_key p) pulls) < length pulls = fewer_gone pulls place p r s in
    let long : length left ≡ length (without_row pull_key (pull_key p) pulls) = ap length l ∙ ap (λ (k : ℕ). length (without_row pull_key k pulls)) (sym key) in
    omega arith

pub fewer_left : (pulls left : List Pull) (place : ℕ) (file : FileId) → Rising pull_key pulls → option_map (λ (p : Pull). p.file) (slice_get pulls place) ≡ Some file → left ≡ without_row pull_key (file_key file) pulls → place < length pulls → length left - place < length pulls - place
fewer_left pulls left place file r f l h = fewer_at pulls left place file (slice_get pulls place) refl r f l h
