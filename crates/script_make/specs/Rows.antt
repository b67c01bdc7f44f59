-- The lines of a script, each for one number.
use Rattle.std.specs.Prelude.{ℕ, ◌+◌, ◌*◌, ◌%◌, ◌==◌, not, List, [], ◌∷◌, ◌++◌, codes, filter, flat_map, map, if◌then◌else◌}
use Rattle.std.specs.Fmt.{decimal}
use Rattle.std.specs.List.{join_with_byte}
use Rattle.script_make.specs.declared.rows.Row.{Row}
use Rattle.script_make.specs.declared.rows.Row.TheVariants.{Owner, Teach, Register, Submit, Update, Handover, Ask, AskAbsent}

-- the authorities that domain i trusts: 0, 1, 2 and 3 without (i + 3) mod 4
abbrev pub trusted_by : ℕ → List ℕ
trusted_by i = filter (λ a. not (a == (i + 3) % 4)) (0 ∷ 1 ∷ 2 ∷ 3 ∷ [])

-- their numbers, written with a comma between each two
abbrev pub trusted_text : ℕ → List ℕ
trusted_text i = join_with_byte 44 (map decimal (trusted_by i))

-- a line by which an authority learns of domain i
abbrev pub teaching_text : ℕ → ℕ → List ℕ
teaching_text i authority =
    codes "teach A" ++ (decimal authority ++ (codes " d" ++ (decimal i ++ (codes ".example D" ++ (decimal i ++ codes "\n")))))

-- what the domain trusts and whom it asks, at the end of a line
abbrev pub trusts_text : ℕ → List ℕ
trusts_text i = codes " 8 1000 " ++ (trusted_text i ++ (codes " " ++ (trusted_text i ++ codes "\n")))

-- the word that says whether domain i is bound to its key
abbrev pub keyed_text : ℕ → List ℕ
keyed_text i = if i % 8 == 0 then codes "keyed" else codes "free"

-- the line that registers domain i
abbrev pub registration_text : ℕ → List ℕ
registration_text i =
    codes "register D" ++ (decimal i ++ (codes " d" ++ (decimal i ++ (codes ".example 2 " ++ (keyed_text i ++ trusts_text i)))))

-- the line that updates domain i, whose draft is i + 1
abbrev pub update_text : ℕ → List ℕ
update_text i = codes "update D" ++ (decimal i ++ (codes " " ++ (decimal (i + 1) ++ (codes " 2 free" ++ trusts_text i))))

-- the line by which the owner of domain i hands a draft over, where the domain is keyed
abbrev pub handover_text : ℕ → ℕ → List ℕ
handover_text i draft =
    if i % 8 == 0
    then codes "handover D" ++ (decimal i ++ (codes " " ++ (decimal draft ++ codes "\n")))
    else []

-- the lines in which a client asks for domain i, and judges the answer in this epoch
abbrev pub question_text : ℕ → ℕ → List ℕ
question_text epoch i =
    codes "ask L" ++ (decimal (i % 5) ++ (codes " d" ++ (decimal i ++ (codes ".example A" ++ (decimal (i % 4)
    ++ (codes " A" ++ (decimal ((i + 1) % 4) ++ (codes " C0\nflush\njudge last d" ++ (decimal i
    ++ (codes ".example " ++ (decimal epoch ++ codes " 4\n")))))))))))

-- the same of the k-th name that is not there
abbrev pub question_on_none_text : ℕ → ℕ → List ℕ
question_on_none_text epoch k =
    codes "ask L" ++ (decimal (k % 5) ++ (codes " none" ++ (decimal k ++ (codes ".example A0 A1 C0\nflush\njudge last none"
    ++ (decimal k ++ (codes ".example " ++ (decimal epoch ++ codes " 4\n")))))))

-- the lines of a row for number i
abbrev pub row_text : Row → ℕ → List ℕ
row_text Owner i = codes "owner D" ++ (decimal i ++ codes "\n")
row_text Teach i = flat_map (teaching_text i) (trusted_by i)
row_text Register i = registration_text i
row_text (Submit before) i = codes "submit " ++ (decimal (before + 1 + i) ++ codes "\n")
row_text Update i = update_text (4 * i)
row_text (Handover domains) i = handover_text (4 * i) (domains + 1 + i)
row_text (Ask last) i = question_text last i
row_text (AskAbsent last) i = question_on_none_text last i
