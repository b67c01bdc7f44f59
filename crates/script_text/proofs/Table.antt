-- A line is read by the row of its first word.
use Rattle.std.proofs.Common.{◌≡◌, ℕ, Bool, true, false, ◌||◌, cond, List, [], ◌∷◌, Err, refl, ap, ◌∙◌}
use Rattle.std.specs.Str.{bytes_eq}
use Rattle.ar_lines.specs.declared.refusal.Reason.TheVariants.{Word}
use Rattle.script_text.specs.Grammar.{Row, line_by}
use Rattle.script_text.specs.Rows.{has_word, row_of, table}
use Rattle.script_text.specs.declared.keyword.Keyword.{Keyword}
use Rattle.script_text.specs.declared.keyword.Keyword.TheVariants as keyword

of_keyword : (k : Keyword) (words : List (List ℕ)) → line_by table (row_of k).word words ≡ (row_of k).fields words
of_keyword keyword.Secret words = refl
of_keyword keyword.Keys words = refl
of_keyword keyword.Logs words = refl
of_keyword keyword.Authorities words = refl
of_keyword keyword.Dishonest words = refl
of_keyword keyword.Owner words = refl
of_keyword keyword.Teach words = refl
of_keyword keyword.Forget words = refl
of_keyword keyword.Retire words = refl
of_keyword keyword.Register words = refl
of_keyword keyword.Update words = refl
of_keyword keyword.Revoke words = refl
of_keyword keyword.Handover words = refl
of_keyword keyword.Object words = refl
of_keyword keyword.Submit words = refl
of_keyword keyword.Propose words = refl
of_keyword keyword.Pass words = refl
of_keyword keyword.Roll words = refl
of_keyword keyword.Learn words = refl
of_keyword keyword.Ask words = refl
of_keyword keyword.Deliver words = refl
of_keyword keyword.Flush words = refl
of_keyword keyword.Judge words = refl
of_keyword keyword.Sign words = refl
of_keyword keyword.Inject words = refl
of_keyword keyword.Burst words = refl
of_keyword keyword.End words = refl

-- the row of the first word
pub line_by-row : (k : Keyword) (word : List ℕ) (words : List (List ℕ)) → word ≡ (row_of k).word → line_by table word words ≡ (row_of k).fields words
line_by-row k word words h = ap (λ (w : List ℕ). line_by table w words) h ∙ of_keyword k words

absent_in : (here : Bool) (rows : List Row) (row : Row) (word : List ℕ) (words : List (List ℕ)) → (here || has_word rows word) ≡ false → (has_word rows word ≡ false → line_by rows word words ≡ Err Word) → cond here (row.fields words) (line_by rows word words) ≡ Err Word
absent_in true rows row word words h more = absurd cc
absent_in false rows row word words h more = more h

absent : (rows : List Row) (word : List ℕ) (words : List (List ℕ)) → has_word rows word ≡ false → line_by rows word words ≡ Err Word
absent [] word words h = refl
absent (row ∷ rows) word words h = absent_in (bytes_eq word row.word) rows row word words h (absent rows word words)

-- no row has the first word
pub line_by-none : (word : List ℕ) (words : List (List ℕ)) → has_word table word ≡ false → line_by table word words ≡ Err Word
line_by-none word words h = absent table word words h

pub ruleset table_laws = (line_by-row, line_by-none)
