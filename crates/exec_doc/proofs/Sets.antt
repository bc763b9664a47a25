-- The words that the values of a JSON list are, where they spell a `set`.
use Rattle.std.proofs.Common.{◌≡◌, ◌≤◌, ◌<◌, List, [], ◌∷◌, length, get_or, map, codes, Option, None, Some, IfSome, refl, ◌∙◌, arith}
use Rattle.std.specs.Option.{option_map}
use Rattle.serde_json.specs.View.{view}
use Rattle.serde_json.specs.declared.value.Value.{Value}
use Rattle.exec_msg.specs.Options.{◌>>=◌, each}
use Rattle.exec_script.specs.declared.word.Word.{Word}
use Rattle.exec_script.specs.declared.word.Word.TheVariants.{Text}
use Rattle.exec_doc.specs.Forms.{word}

mapped : {A B : Type 0} (f : A → B) (read : Option A) → (read >>= (λ x. Some (f x))) ≡ option_map f read
mapped f None = refl
mapped f (Some x) = refl

-- five values, of which the first is the word `set`, are the words that it and the other four are
pub set_read : (found : Option (List Word)) (values : List Value) (name target does left right : Value) → 5 ≤ length values → length values < 6 → name ≡ get_or values 0 name → target ≡ get_or values 1 target → does ≡ get_or values 2 does → left ≡ get_or values 3 left → right ≡ get_or values 4 right → word (view name) ≡ Some (Text (codes "set")) → IfSome found (λ set. option_map (λ items. Text (codes "set") ∷ items) (each word (view target ∷ view does ∷ view left ∷ view right ∷ [])) ≡ Some set) → IfSome found (λ set. each word (map view values) ≡ Some set)
set_read None values name target does left right least most n t d l r named said = tt
set_read (Some set) [] name target does left right least most n t d l r named said = absurd (omega arith)
set_read (Some set) (v ∷ []) name target does left right least most n t d l r named said = absurd (omega arith)
set_read (Some set) (v ∷ w ∷ []) name target does left right least most n t d l r named said = absurd (omega arith)
set_read (Some set) (v ∷ w ∷ x ∷ []) name target does left right least most n t d l r named said = absurd (omega arith)
set_read (Some set) (v ∷ w ∷ x ∷ y ∷ []) name target does left right least most n t d l r named said = absurd (omega arith)
set_read (Some set) (v ∷ w ∷ x ∷ y ∷ z ∷ more ∷ others) name target does left right least most n t d l r named said = absurd (omega arith)
set_read (Some set) (v ∷ w ∷ x ∷ y ∷ z ∷ []) name target does left right least most n t d l r named said =
    rw (← n, ← t, ← d, ← l, ← r, named) (mapped (λ (items : List Word). Text (codes "set") ∷ items) (each word (view target ∷ view does ∷ view left ∷ view right ∷ [])) ∙ said)
