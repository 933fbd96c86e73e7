-- What clap finds, read as values.
use Rattle.std.proofs.Common.{◌≡◌, ℕ, Bool, codes, List, [], ◌∷◌, ◌++◌, Option, Some, None, option_map, option_and_then, refl, sym, ◌∙◌, ap}
use Rattle.std.specs.Borrow.{Bor}
use Rattle.amp_dense.specs.Rules.{Settings}
use Rattle.clap.specs.Words.{Row, Text, first_of, first_value, rows_of}
use Rattle.clap.specs.declared.parser.matches.Found.{Found}
use Rattle.clap.proofs.WalkLemmas.{first_value-rows}
use Rattle.sliq_words.specs.declared.reading.Task.{Task}
use Rattle.sliq_words.specs.declared.form.Form.{Form}
use Rattle.sliq_words.specs.declared.form.Word.{Word}
use Rattle.sliq_words.specs.declared.form.Word.TheVariants.{File, Number}
use Rattle.sliq_words.specs.Values.{number_in, bits_of}
use Rattle.sliq_words.specs.Asked.{◌>>=◌, request, settings, setting_of, rules_in, input_in, in_turn, number_at, filled, task_in, names_at, files_in, request_in}

-- the value of a word or an option
pub found_text : (f : Found) (id : Text) (o : Option (Bor Text)) (s : Bor Text) → o ≡ Some s → option_map (λ s. s.now) o ≡ first_value f id → first_of id (rows_of f) ≡ Some s.now
found_text f id o s is found = sym (first_value-rows f id) ∙ sym found ∙ ap (option_map (λ (s : Bor Text). s.now)) is

pub found_none : (f : Found) (id : Text) (o : Option (Bor Text)) → o ≡ None → option_map (λ s. s.now) o ≡ first_value f id → first_of id (rows_of f) ≡ None
found_none f id o is found = sym (first_value-rows f id) ∙ sym found ∙ ap (option_map (λ (s : Bor Text). s.now)) is

pub setting_some : (id : Text) (least most usual : ℕ) (rows : List Row) (t : Text) → first_of id rows ≡ Some t → number_in least most t ≡ setting_of id least most usual rows
unfolding setting_of
setting_some id least most usual rows t e = rw e refl

pub setting_none : (id : Text) (least most usual : ℕ) (rows : List Row) → first_of id rows ≡ None → Some usual ≡ setting_of id least most usual rows
unfolding setting_of
setting_none id least most usual rows e = rw e refl

pub number_some : (word : Option Word) (id : Text) (least most : ℕ) (rows : List Row) (t : Text) → word ≡ Some (Number least most) → first_of id rows ≡ Some t → number_in least most t ≡ number_at word id rows
number_some word id least most rows t is e = rw (is, e) refl

pub number_missing : (word : Option Word) (id : Text) (least most : ℕ) (rows : List Row) → word ≡ Some (Number least most) → first_of id rows ≡ None → None ≡ number_at word id rows
number_missing word id least most rows is e = rw (is, e) refl

pub input_some : (rows : List Row) (t : Text) (x : List Bool) → first_of (codes "input") rows ≡ Some t → bits_of t ≡ Some x → Some (Some x) ≡ input_in rows
unfolding input_in
input_some rows t x e is = rw (e, is) refl

pub input_bad : (rows : List Row) (t : Text) → first_of (codes "input") rows ≡ Some t → bits_of t ≡ None → None ≡ input_in rows
unfolding input_in
input_bad rows t e is = rw (e, is) refl

pub input_none : (rows : List Row) → first_of (codes "input") rows ≡ None → Some None ≡ input_in rows
unfolding input_in
input_none rows e = rw e refl

-- the rules, where each setting reads
abbrev rules_from : Option ℕ → Option ℕ → Option ℕ → Option ℕ → Option ℕ → Option Settings
rules_from ow on oc or os = ow >>= (λ w. on >>= (λ n. oc >>= (λ c. or >>= (λ r. os >>= (λ s. Some (settings w n c r s))))))

no_width : (ow on oc or os : Option ℕ) → ow ≡ None → None ≡ rules_from ow on oc or os
no_width ow on oc or os e = rw e refl

no_nodes : (ow on oc or os : Option ℕ) (w : ℕ) → ow ≡ Some w → on ≡ None → None ≡ rules_from ow on oc or os
no_nodes ow on oc or os w e f = rw (e, f) refl

no_cache : (ow on oc or os : Option ℕ) (w n : ℕ) → ow ≡ Some w → on ≡ Some n → oc ≡ None → None ≡ rules_from ow on oc or os
no_cache ow on oc or os w n e f g = rw (e, f, g) refl

no_reclaim : (ow on oc or os : Option ℕ) (w n c : ℕ) → ow ≡ Some w → on ≡ Some n → oc ≡ Some c → or ≡ None → None ≡ rules_from ow on oc or os
no_reclaim ow on oc or os w n c e f g h = rw (e, f, g, h) refl

no_sift : (ow on oc or os : Option ℕ) (w n c r : ℕ) → ow ≡ Some w → on ≡ Some n → oc ≡ Some c → or ≡ Some r → os ≡ None → None ≡ rules_from ow on oc or os
no_sift ow on oc or os w n c r e f g h i = rw (e, f, g, h, i) refl

all_rules : (ow on oc or os : Option ℕ) (w n c r s : ℕ) → ow ≡ Some w → on ≡ Some n → oc ≡ Some c → or ≡ Some r → os ≡ Some s → Some (settings w n c r s) ≡ rules_from ow on oc or os
all_rules ow on oc or os w n c r s e f g h i = rw (e, f, g, h, i) refl

abbrev w_of : List Row → Option ℕ
w_of rows = setting_of (codes "width") 2 128 128 rows

abbrev n_of : List Row → Option ℕ
n_of rows = setting_of (codes "nodes") 64 16777216 1048576 rows

abbrev c_of : List Row → Option ℕ
c_of rows = setting_of (codes "cache") 1 1048576 65536 rows

abbrev r_of : List Row → Option ℕ
r_of rows = setting_of (codes "reclaim") 0 1000000 16 rows

abbrev s_of : List Row → Option ℕ
s_of rows = setting_of (codes "sift") 0 1000000 0 rows

pub rules_no_width : (rows : List Row) → w_of rows ≡ None → None ≡ rules_in rows
unfolding rules_in
rules_no_width rows e = no_width (w_of rows) (n_of rows) (c_of rows) (r_of rows) (s_of rows) e

pub rules_no_nodes : (rows : List Row) (w : ℕ) → w_of rows ≡ Some w → n_of rows ≡ None → None ≡ rules_in rows
unfolding rules_in
rules_no_nodes rows w e f = no_nodes (w_of rows) (n_of rows) (c_of rows) (r_of rows) (s_of rows) w e f

pub rules_no_cache : (rows : List Row) (w n : ℕ) → w_of rows ≡ Some w → n_of rows ≡ Some n → c_of rows ≡ None → None ≡ rules_in rows
unfolding rules_in
rules_no_cache rows w n e f g = no_cache (w_of rows) (n_of rows) (c_of rows) (r_of rows) (s_of rows) w n e f g

pub rules_no_reclaim : (rows : List Row) (w n c : ℕ) → w_of rows ≡ Some w → n_of rows ≡ Some n → c_of rows ≡ Some c → r_of rows ≡ None → None ≡ rules_in rows
unfolding rules_in
rules_no_reclaim rows w n c e f g h = no_reclaim (w_of rows) (n_of rows) (c_of rows) (r_of rows) (s_of rows) w n c e f g h

pub rules_no_sift : (rows : List Row) (w n c r : ℕ) → w_of rows ≡ Some w → n_of rows ≡ Some n → c_of rows ≡ Some c → r_of rows ≡ Some r → s_of rows ≡ None → None ≡ rules_in rows
unfolding rules_in
rules_no_sift rows w n c r e f g h i = no_sift (w_of rows) (n_of rows) (c_of rows) (r_of rows) (s_of rows) w n c r e f g h i

pub rules_all : (rows : List Row) (w n c r s : ℕ) → w_of rows ≡ Some w → n_of rows ≡ Some n → c_of rows ≡ Some c → r_of rows ≡ Some r → s_of rows ≡ Some s → Some (settings w n c r s) ≡ rules_in rows
unfolding rules_in
rules_all rows w n c r s e f g h i = all_rules (w_of rows) (n_of rows) (c_of rows) (r_of rows) (s_of rows) w n c r s e f g h i

-- ---- three words
module _ {X : Type 0} (read : Option Word → Text → List Row → Option X) (form : Form) (rows : List Row) where
  pub all_read : (a b c : X) → read form.first (codes "FIRST") rows ≡ Some a → read form.second (codes "SECOND") rows ≡ Some b → read form.third (codes "THIRD") rows ≡ Some c
      → in_turn read form rows ≡ Some (a, b, c)
  all_read a b c e f g = rw (e, f, g) refl

  pub no_first : read form.first (codes "FIRST") rows ≡ None → in_turn read form rows ≡ None
  no_first e = rw e refl

  pub no_second : (a : X) → read form.first (codes "FIRST") rows ≡ Some a → read form.second (codes "SECOND") rows ≡ None → in_turn read form rows ≡ None
  no_second a e f = rw (e, f) refl

  pub no_third : (a b : X) → read form.first (codes "FIRST") rows ≡ Some a → read form.second (codes "SECOND") rows ≡ Some b → read form.third (codes "THIRD") rows ≡ None → in_turn read form rows ≡ None
  no_third a b e f g = rw (e, f, g) refl

-- ---- the task
pub no_task : (form : Form) (rows : List Row) → in_turn number_at form rows ≡ None → None ≡ task_in form rows
unfolding task_in
no_task form rows e = sym (ap (option_and_then _) e)

pub no_input : (form : Form) (rows : List Row) (a b c : ℕ) → in_turn number_at form rows ≡ Some (a, b, c) → input_in rows ≡ None → None ≡ task_in form rows
unfolding task_in
no_input form rows a b c e f = sym (ap (option_and_then _) e ∙ ap (option_and_then _) f)

pub task_read : (form : Form) (rows : List Row) (a b c : ℕ) (x : Option (List Bool)) → in_turn number_at form rows ≡ Some (a, b, c) → input_in rows ≡ Some x → Some (filled form.kind a b c x) ≡ task_in form rows
unfolding task_in
task_read form rows a b c x e f = sym (ap (option_and_then _) e ∙ ap (option_and_then _) f)

-- ---- the files
-- names behind those that are there
abbrev pub behind : List Text → Option (List Text) → Option (List Text)
behind old names = option_map (λ n. old ++ n) names

-- one word's names, added to those before
pub names_added : (old new : List Text) (o : Option (List Text)) → behind old o ≡ Some new → (n : List Text) × (o ≡ Some n) × (old ++ n ≡ new)
names_added old new None e = absurd (cc)
names_added old new (Some n) e = (n, refl, let some : Some (old ++ n) ≡ Some new = e in cc)

pub names_missing : (word : Option Word) (id : Text) (rows : List Row) → word ≡ Some File → first_of id rows ≡ None → names_at word id rows ≡ None
names_missing word id rows is e = rw (is, e) refl

pub name_pushed : (word : Option Word) (id : Text) (rows : List Row) (t : Text) (old new : List Text) → word ≡ Some File → first_of id rows ≡ Some t → new ≡ old ++ t ∷ [] → behind old (names_at word id rows) ≡ Some new
name_pushed word id rows t old new is e pushed = rw (is, e) (ap (λ l. Some l) (sym pushed))

pub no_files : (form : Form) (rows : List Row) → in_turn names_at form rows ≡ None → files_in form rows ≡ None
unfolding files_in
no_files form rows e = ap (option_map (λ n. n.0 ++ n.1 ++ n.2)) e

pub files_read : (form : Form) (rows : List Row) (old one two new : List Text) → old ≡ [] → behind old (names_at form.first (codes "FIRST") rows) ≡ Some one → behind one (names_at form.second (codes "SECOND") rows) ≡ Some two
    → behind two (names_at form.third (codes "THIRD") rows) ≡ Some new → files_in form rows ≡ Some new
unfolding files_in
files_read form rows old one two new none e f g =
    let a = names_added old one (names_at form.first (codes "FIRST") rows) e in
    let b = names_added one two (names_at form.second (codes "SECOND") rows) f in
    let c = names_added two new (names_at form.third (codes "THIRD") rows) g in
    ap (option_map (λ n. n.0 ++ n.1 ++ n.2)) (all_read names_at form rows a.0 b.0 c.0 a.1 b.1 c.1)
    ∙ ap (λ l. Some l) (ap (λ l. l ++ c.0) (ap (λ l. l ++ b.0) (sym (ap (λ l. l ++ a.0) none) ∙ a.2) ∙ b.2) ∙ c.2)

-- ---- all together
pub no_task_requested : (form : Form) (rows : List Row) → task_in form rows ≡ None → request_in form rows ≡ None
unfolding request_in
no_task_requested form rows e = rw e refl

pub no_rules_requested : (form : Form) (rows : List Row) (t : Task) → task_in form rows ≡ Some t → rules_in rows ≡ None → request_in form rows ≡ None
unfolding request_in
no_rules_requested form rows t e f = rw (e, f) refl

pub no_files_requested : (form : Form) (rows : List Row) (t : Task) (r : Settings) → task_in form rows ≡ Some t → rules_in rows ≡ Some r → files_in form rows ≡ None → request_in form rows ≡ None
unfolding request_in
no_files_requested form rows t r e f g = rw (e, f, g) refl

pub all_requested : (form : Form) (rows : List Row) (t : Task) (fs : List Text) (r : Settings) → task_in form rows ≡ Some t → rules_in rows ≡ Some r → files_in form rows ≡ Some fs → request_in form rows ≡ Some (request t fs r)
unfolding request_in
all_requested form rows t fs r e f g = rw (e, f, g) refl
