-- Which opens may be settled.
use Rattle.std.proofs.Common.{◌≡◌, Bool, true, false, ℕ, Option, Some, None, refl, sym, ap, ◌∙◌}
use Rattle.std.proofs.lemmas.Bool.{false≢true}
use Rattle.locus_ids.specs.declared.ids.FileId.{FileId}
use Rattle.locus_ids.specs.declared.ids.Kind.{Kind}
use Rattle.locus_ids.specs.declared.ids.Serial.{Serial}
use Rattle.role_steps.specs.declared.synchronizing.OpenRow.{OpenRow}
use Rattle.role_steps.specs.declared.synchronizing.OpenStage.{OpenStage}
use Rattle.role_steps.specs.declared.synchronizing.OpenStage.TheVariants as stage
use Rattle.role_steps.specs.Opens.{is_open_stage}
use Rattle.css_opens.specs.declared.entry.Closing.{Closing}
use Rattle.css_opens.specs.declared.entry.Closing.TheVariants.{Unknown, Again, Released}
use Rattle.css_opens.specs.Settled.{closing_at, closing_of, is_asked, is_asked_stage, is_open_some}

asked_stage : (s : OpenStage) → is_asked_stage s ≡ true → is_open_stage s ≡ true
asked_stage stage.Asked h = refl
asked_stage stage.Granted h = refl
asked_stage (stage.Refused why) h = absurd (false≢true h)
asked_stage stage.Ended h = absurd (false≢true h)

-- one that is asked of its storage site is open
pub asked_open : (o : Option OpenRow) → is_asked o ≡ true → is_open_some o ≡ true
asked_open None h = absurd (false≢true h)
asked_open (Some r) h = asked_stage r.stage h

abbrev pub is_released : Closing → Bool
is_released (Released i f k s) = true
is_released _ = false

released_stage : (r : OpenRow) (s : OpenStage) → is_released (closing_at r s) ≡ true → is_open_stage s ≡ true
released_stage r stage.Asked h = refl
released_stage r stage.Granted h = refl
released_stage r (stage.Refused why) h = absurd (false≢true h)
released_stage r stage.Ended h = absurd (false≢true h)

released_row : (o : Option OpenRow) → is_released (closing_of o) ≡ true → is_open_some o ≡ true
released_row None h = absurd (false≢true h)
released_row (Some r) h = released_stage r r.stage h

-- and one whose close releases it
pub released_open : (o : Option OpenRow) (made c : Closing) → made ≡ closing_of o → made ≡ c → is_released c ≡ true → is_open_some o ≡ true
released_open o made c e is h = released_row o (ap is_released (sym e ∙ is) ∙ h)
