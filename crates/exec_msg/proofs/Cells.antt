-- Lines that stand in cells, and more behind them.
use Rattle.std.proofs.Common.{◌≡◌, ℕ, List, [], ◌∷◌, ◌++◌, refl, sym, ap, subst, ◌∙◌, append-nil, append_assoc}
use Rattle.exec_msg.specs.declared.line.Line.{Line}
use Rattle.exec_msg.specs.declared.packed.PackedCell.{PackedCell}
use Rattle.exec_msg.specs.declared.packed.PackedCell.TheVariants as cell
use Rattle.exec_msg.specs.inner.Packed.{Said, a_line, an_id, a_whole_line, said_by, lines_by, lines_in, id_by, id_behind, HaveWholesBy, HaveWholes, HasLines}

lines_said_behind : (said : Said) (cells more : List PackedCell) (id : ℕ) (wholes later : List Line)
    → ((on : ℕ) (those : List Line) → HaveWholes cells on those → lines_in (cells ++ more) on (those ++ later) ≡ lines_in cells on those ++ lines_in more (id_behind cells on) later)
    → HaveWholesBy said id wholes (HaveWholes cells)
    → lines_by said id (wholes ++ later) (lines_in (cells ++ more)) ≡ lines_by said id wholes (lines_in cells) ++ lines_in more (id_by said id (id_behind cells)) later
lines_said_behind (a_line line on) cells more id wholes later rest told = ap (λ lines. line ∷ lines) (rest on wholes told)
lines_said_behind (an_id other) cells more id wholes later rest told = rest other wholes told
lines_said_behind a_whole_line cells more id [] later rest told = absurd told
lines_said_behind a_whole_line cells more id (whole ∷ wholes) later rest told = ap (λ lines. whole ∷ lines) (rest id wholes told)

-- the lines of cells behind others follow the lines of those
lines_behind : (cells more : List PackedCell) (id : ℕ) (wholes later : List Line) → HaveWholes cells id wholes
    → lines_in (cells ++ more) id (wholes ++ later) ≡ lines_in cells id wholes ++ lines_in more (id_behind cells id) later
lines_behind [] more id [] later told = refl
lines_behind [] more id (whole ∷ wholes) later told = absurd told
lines_behind (one ∷ cells) more id wholes later told = lines_said_behind (said_by one id) cells more id wholes later (λ on those is. lines_behind cells more on those later is) told

id_said_behind : (said : Said) (cells more : List PackedCell) (id : ℕ) → ((on : ℕ) → id_behind (cells ++ more) on ≡ id_behind more (id_behind cells on))
    → id_by said id (id_behind (cells ++ more)) ≡ id_behind more (id_by said id (id_behind cells))
id_said_behind (a_line line on) cells more id rest = rest on
id_said_behind (an_id other) cells more id rest = rest other
id_said_behind a_whole_line cells more id rest = rest id

ids_behind : (cells more : List PackedCell) (id : ℕ) → id_behind (cells ++ more) id ≡ id_behind more (id_behind cells id)
ids_behind [] more id = refl
ids_behind (one ∷ cells) more id = id_said_behind (said_by one id) cells more id (λ on. ids_behind cells more on)

told_said_behind : (said : Said) (cells more : List PackedCell) (id : ℕ) (wholes later : List Line)
    → ((on : ℕ) (those : List Line) → HaveWholes cells on those → HaveWholes more (id_behind cells on) later → HaveWholes (cells ++ more) on (those ++ later))
    → HaveWholesBy said id wholes (HaveWholes cells) → HaveWholes more (id_by said id (id_behind cells)) later → HaveWholesBy said id (wholes ++ later) (HaveWholes (cells ++ more))
told_said_behind (a_line line on) cells more id wholes later rest told then = rest on wholes told then
told_said_behind (an_id other) cells more id wholes later rest told then = rest other wholes told then
told_said_behind a_whole_line cells more id [] later rest told then = absurd told
told_said_behind a_whole_line cells more id (whole ∷ wholes) later rest told then = rest id wholes told then

told_behind : (cells more : List PackedCell) (id : ℕ) (wholes later : List Line) → HaveWholes cells id wholes → HaveWholes more (id_behind cells id) later → HaveWholes (cells ++ more) id (wholes ++ later)
told_behind [] more id [] later told then = then
told_behind [] more id (whole ∷ wholes) later told then = absurd told
told_behind (one ∷ cells) more id wholes later told then = told_said_behind (said_by one id) cells more id wholes later (λ on those is further. told_behind cells more on those later is further) told then

-- ---- a line is pushed

-- one that says a line, behind cells that say none
pub line_pushed : (cells told new : List PackedCell) (before id behind : ℕ) (line : Line) (last : PackedCell) → HasLines cells told before id [] → said_by last id ≡ a_line line behind → new ≡ told ++ last ∷ []
    → HasLines cells new before behind (line ∷ [])
line_pushed cells told new before id behind line last has says is = (
  has.0 ++ last ∷ [],
  is ∙ ap (λ (these : List PackedCell). these ++ last ∷ []) has.1 ∙ append_assoc cells has.0 (last ∷ []),
  lines_behind has.0 (last ∷ []) before [] [] has.4 ∙ (λ i. has.2 i ++ lines_in (last ∷ []) (has.3 i) []) ∙ ap (λ (said : Said). lines_by said id [] (lines_in [])) says,
  ids_behind has.0 (last ∷ []) before ∙ ap (id_behind (last ∷ [])) has.3 ∙ ap (λ (said : Said). id_by said id (id_behind [])) says,
  told_behind has.0 (last ∷ []) before [] [] has.4 (subst (λ (one : ℕ). HaveWholes (last ∷ []) one []) (sym has.3) (subst (λ (said : Said). HaveWholesBy said id [] (HaveWholes [])) (sym says) tt)),
)

module _ (cells kept new : List PackedCell) (id on : ℕ) (wholes : List Line) (line : Line) (told : HaveWholes cells 0 wholes) (id_is : id_behind cells 0 ≡ id) (kept_is : kept ≡ cells) where
  -- a line more that has a form in cells
  pub cells_added : HasLines kept new id on (line ∷ []) → (lines_in new 0 wholes ≡ lines_in cells 0 wholes ++ line ∷ []) × HaveWholes new 0 wholes × (id_behind new 0 ≡ on)
  cells_added has =
      let is : new ≡ cells ++ has.0 = has.1 ∙ ap (λ (these : List PackedCell). these ++ has.0) kept_is in (
        (λ i. lines_in (is i) 0 (sym (append-nil wholes) i)) ∙ lines_behind cells has.0 0 wholes [] told ∙ ap (λ (one : ℕ). lines_in cells 0 wholes ++ lines_in has.0 one []) id_is ∙ ap (λ (more : List Line). lines_in cells 0 wholes ++ more) has.2,
        subst (λ (these : List PackedCell). HaveWholes these 0 wholes) (sym is) (subst (λ (these : List Line). HaveWholes (cells ++ has.0) 0 these) (append-nil wholes) (told_behind cells has.0 0 wholes [] told (subst (λ (one : ℕ). HaveWholes has.0 one []) (sym id_is) has.4))),
        ap (λ (these : List PackedCell). id_behind these 0) is ∙ ids_behind cells has.0 0 ∙ ap (id_behind has.0) id_is ∙ has.3,
      )

  -- a line more that stands whole
  pub whole_added : (wholes-new : List Line) → new ≡ kept ++ cell.Whole ∷ [] → wholes-new ≡ wholes ++ line ∷ [] → on ≡ id
      → (lines_in new 0 wholes-new ≡ lines_in cells 0 wholes ++ line ∷ []) × HaveWholes new 0 wholes-new × (id_behind new 0 ≡ on)
  whole_added wholes-new new_is wholes_are same =
      let is : new ≡ cells ++ cell.Whole ∷ [] = new_is ∙ ap (λ (these : List PackedCell). these ++ cell.Whole ∷ []) kept_is in (
        (λ i. lines_in (is i) 0 (wholes_are i)) ∙ lines_behind cells (cell.Whole ∷ []) 0 wholes (line ∷ []) told,
        subst (λ (these : List PackedCell). HaveWholes these 0 wholes-new) (sym is) (subst (λ (these : List Line). HaveWholes (cells ++ cell.Whole ∷ []) 0 these) (sym wholes_are) (told_behind cells (cell.Whole ∷ []) 0 wholes (line ∷ []) told tt)),
        ap (λ (these : List PackedCell). id_behind these 0) is ∙ ids_behind cells (cell.Whole ∷ []) 0 ∙ id_is ∙ sym same,
      )
