use Rattle.hash_lanes.proofs.TextLemmas.{text_begins}
use Rattle.hash_lanes.proofs.text.id_words.Goals as goal

pub returns : goal.returns
returns c = λ leaf chain step value small thirty_two.
    text_begins c.args.id.now leaf chain step value _ _ _ _ c.told-id small thirty_two
    c.word_of.ensures c.word_of-2.ensures c.word_of-3.ensures c.word_of-4.ensures
