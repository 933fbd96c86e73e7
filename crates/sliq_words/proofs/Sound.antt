-- What is asked for has the files of its command, and values and rules in their ranges.
use Rattle.std.proofs.Common.{◌≡◌, ℕ, ◌+◌, ◌≤◌, ◌&&◌, ◌==◌, Bool, nat_le, List, [], ◌∷◌, ◌++◌, map, length, codes, Option, Some, None, IfSome, option_map, inl, inr, refl, sym, ◌∙◌, ap, subst, arith, length-append}
use Rattle.std.specs.List.{list_all}
use Rattle.std.specs.Option.{option_map_or}
use Rattle.std.specs.Str.Parse.{digits_value}
use Rattle.std.proofs.lemmas.Bool.{cases_Bool, cond-true, cond-false, and_parts}
use Rattle.amp_dense.specs.Rules.{Settings, AreRules}
use Rattle.clap.specs.Words.{Row, Text, first_of}
use Rattle.sliq_words.specs.declared.reading.Task.{Task}
use Rattle.sliq_words.specs.declared.reading.Task.TheVariants as task
use Rattle.sliq_words.specs.declared.form.Form.{Form}
use Rattle.sliq_words.specs.declared.form.Word.{Word}
use Rattle.sliq_words.specs.declared.form.Word.TheVariants.{File, Number}
use Rattle.sliq_words.specs.Forms.{form_of, IsCommand, IsWithin, faults, rows_for}
use Rattle.sliq_words.specs.Values.{is_bit, is_number, number_in, bits_of}
use Rattle.sliq_words.specs.Asked.{◌>>=◌, Request, request, settings, IsRequest, InRange, file_count, setting_of, rules_in, input_in, in_turn, number_at, filled, task_in, names_at, files_in, request_in, asked_after, asked_of}
use Rattle.sliq_words.proofs.Commands.{files_at, sound}
use Rattle.sliq_words.proofs.Numbers.{le_from, length_bits}

-- what goes on to a value had one to go on with
bound : {X Y : Type 0} (o : Option X) (next : X → Option Y) (y : Y) → (o >>= next) ≡ Some y → (x : X) × (o ≡ Some x) × (next x ≡ Some y)
bound None next y e = absurd (let none : None ≡ Some y = e in cc)
bound (Some x) next y e = (x, refl, e)

mapped : {X Y : Type 0} (o : Option X) (f : X → Y) (y : Y) → option_map f o ≡ Some y → (x : X) × (o ≡ Some x) × (f x ≡ y)
mapped None f y e = absurd (let none : None ≡ Some y = e in cc)
mapped (Some x) f y e = (x, refl, let some : Some (f x) ≡ Some y = e in cc)

number_within : (least most n : ℕ) (t : Text) → number_in least most t ≡ Some n → (least ≤ n) × (n ≤ most)
unfolding number_in
number_within least most n t e =
    let m = digits_value 10 t in
    let range = nat_le least m && nat_le m most in
    elim (cases_Bool (is_number t && range)) [
      | inl h ↦
          let both = and_parts (nat_le least m) (nat_le m most) (and_parts (is_number t) range h).1 in
          let some : Some m ≡ Some n = sym (cond-true (is_number t && range) (Some m) None h) ∙ e in
          let same : m ≡ n = cc in
          let low = le_from least m both.0 in
          let high = le_from m most both.1 in
          (omega arith, omega arith)
      | inr h ↦ absurd (let none : None ≡ Some n = sym (cond-false (is_number t && range) (Some m) None h) ∙ e in cc)
    ]

-- so does that of a word
at_within : (word : Option Word) (id : Text) (rows : List Row) (n : ℕ) → number_at word id rows ≡ Some n → IsWithin word n
at_within (Some (Number least most)) id rows n e = let found = bound (first_of id rows) (number_in least most) n e in number_within least most n found.0 found.2
at_within (Some File) id rows n e = tt
at_within None id rows n e = tt

bits_short : (t : Text) (x : List Bool) → bits_of t ≡ Some x → length x ≤ 64
unfolding bits_of
bits_short t x e =
    let back = map (λ (c : ℕ). c == 49) t in
    let fits = nat_le (length t) 64 && list_all is_bit t in
    elim (cases_Bool fits) [
      | inl h ↦
          let short = le_from (length t) 64 (and_parts (nat_le (length t) 64) (list_all is_bit t) h).0 in
          let some : Some back ≡ Some x = sym (cond-true fits (Some back) None h) ∙ e in
          let same : back ≡ x = cc in
          omega (arith, ap length same, length_bits t, short)
      | inr h ↦ absurd (let none : None ≡ Some x = sym (cond-false fits (Some back) None h) ∙ e in cc)
    ]

pub input_within : (rows : List Row) (o : Option (List Bool)) → input_in rows ≡ Some o → IfSome o (λ bits. length bits ≤ 64)
unfolding input_in
input_within rows o e = by (first_of (codes "input") rows) e
  where
    by : (f : Option Text) → option_map_or (λ t. option_map (λ x. Some x) (bits_of t)) f (Some None) ≡ Some o → IfSome o (λ bits. length bits ≤ 64)
    by None e =
        let some : Some (let n : Option (List Bool) = None in n) ≡ Some o = e in
        let same : None ≡ o = cc in
        subst (λ b. IfSome b (λ bits. length bits ≤ 64)) same tt
    by (Some t) e = let read = mapped (bits_of t) (λ x. Some x) o e in subst (λ b. IfSome b (λ bits. length bits ≤ 64)) read.2 (bits_short t read.0 read.1)

-- ---- the words of a command
-- the values of three words that were read
three : {X : Type 0} (read : Option Word → Text → List Row → Option X) (form : Form) (rows : List Row) (n : X × X × X) → in_turn read form rows ≡ Some n
    → (read form.first (codes "FIRST") rows ≡ Some n.0) × (read form.second (codes "SECOND") rows ≡ Some n.1) × (read form.third (codes "THIRD") rows ≡ Some n.2)
three {X} read form rows n e =
    let a = bound (read form.first (codes "FIRST") rows) _ n e in
    let b = bound (read form.second (codes "SECOND") rows) _ n a.2 in
    let c = bound (read form.third (codes "THIRD") rows) _ n b.2 in
    let some : Some (a.0, b.0, c.0) ≡ Some n = c.2 in
    let same : (let m : X × X × X = (a.0, b.0, c.0) in m) ≡ n = cc in
    (a.1 ∙ ap (λ (m : X × X × X). Some m.0) same, b.1 ∙ ap (λ (m : X × X × X). Some m.1) same, c.1 ∙ ap (λ (m : X × X × X). Some m.2) same)

task_sound : (form : Form) (rows : List Row) (t : Task) → IsCommand form → task_in form rows ≡ Some t → InRange t × (file_count t ≡ files_at form.first + files_at form.second + files_at form.third)
unfolding task_in
task_sound form rows t command e =
    let n = bound (in_turn number_at form rows) _ t e in
    let x = bound (input_in rows) _ t n.2 in
    let some : Some (filled form.kind n.0.0 n.0.1 n.0.2 x.0) ≡ Some t = x.2 in
    let same : filled form.kind n.0.0 n.0.1 n.0.2 x.0 ≡ t = cc in
    let read = three number_at form rows n.0 n.1 in
    let is = sound form command in (
      subst InRange same (is.values n.0.0 n.0.1 n.0.2 x.0 (at_within form.first (codes "FIRST") rows n.0.0 read.0) (at_within form.second (codes "SECOND") rows n.0.1 read.1)
          (at_within form.third (codes "THIRD") rows n.0.2 read.2) (input_within rows x.0 x.1)),
      ap file_count (sym same) ∙ is.files n.0.0 n.0.1 n.0.2 x.0,
    )

names_counted : (word : Option Word) (id : Text) (rows : List Row) (names : List Text) → names_at word id rows ≡ Some names → length names ≡ files_at word
names_counted (Some File) id rows names e = sym (ap length (mapped (first_of id rows) (λ (t : Text). t ∷ []) names e).2)
names_counted (Some (Number least most)) id rows names e = let some : Some (let n : List Text = [] in n) ≡ Some names = e in let same : [] ≡ names = cc in sym (ap length same)
names_counted None id rows names e = let some : Some (let n : List Text = [] in n) ≡ Some names = e in let same : [] ≡ names = cc in sym (ap length same)

files_counted : (form : Form) (rows : List Row) (fs : List Text) → files_in form rows ≡ Some fs → length fs ≡ files_at form.first + files_at form.second + files_at form.third
unfolding files_in
files_counted form rows fs e =
    let n = mapped (in_turn names_at form rows) _ fs e in
    let read = three names_at form rows n.0 n.1 in
    let first = names_counted form.first (codes "FIRST") rows n.0.0 read.0 in
    let second = names_counted form.second (codes "SECOND") rows n.0.1 read.1 in
    let third = names_counted form.third (codes "THIRD") rows n.0.2 read.2 in
    omega (arith, ap length n.2, length-append n.0.0 n.0.1, length-append (n.0.0 ++ n.0.1) n.0.2, first, second, third)

-- ---- the rules
-- so does what an option gives, where what is usual does
setting_within : (id : Text) (least most usual n : ℕ) (rows : List Row) → least ≤ usual → usual ≤ most → setting_of id least most usual rows ≡ Some n → (least ≤ n) × (n ≤ most)
unfolding setting_of
setting_within id least most usual n rows low high e = by (first_of id rows) e
  where
    by : (o : Option Text) → option_map_or (number_in least most) o (Some usual) ≡ Some n → (least ≤ n) × (n ≤ most)
    by None e =
        let some : Some usual ≡ Some n = e in
        let same : usual ≡ n = cc in
        (omega (arith, low, same), omega (arith, high, same))
    by (Some t) e = number_within least most n t e

-- each rule by its option
rules_sound : (rows : List Row) (r : Settings) → rules_in rows ≡ Some r → AreRules r
unfolding rules_in
rules_sound rows r e =
    let w = bound (setting_of (codes "width") 2 128 128 rows) _ r e in
    let n = bound (setting_of (codes "nodes") 64 16777216 1048576 rows) _ r w.2 in
    let c = bound (setting_of (codes "cache") 1 1048576 65536 rows) _ r n.2 in
    let k = bound (setting_of (codes "reclaim") 0 1000000 16 rows) _ r c.2 in
    let s = bound (setting_of (codes "sift") 0 1000000 0 rows) _ r k.2 in
    let some : Some (settings w.0 n.0 c.0 k.0 s.0) ≡ Some r = s.2 in
    let same : settings w.0 n.0 c.0 k.0 s.0 ≡ r = cc in
    let width = setting_within (codes "width") 2 128 128 w.0 rows (omega arith) (omega arith) w.1 in
    let nodes = setting_within (codes "nodes") 64 16777216 1048576 n.0 rows (omega arith) (omega arith) n.1 in
    let cache = setting_within (codes "cache") 1 1048576 65536 c.0 rows (omega arith) (omega arith) c.1 in
    let reclaim = setting_within (codes "reclaim") 0 1000000 16 k.0 rows (omega arith) (omega arith) k.1 in
    let sift = setting_within (codes "sift") 0 1000000 0 s.0 rows (omega arith) (omega arith) s.1 in
    subst AreRules same (record {
      least_width = width.0;
      greatest_width = width.1;
      least_nodes = nodes.0;
      greatest_nodes = nodes.1;
      least_cache = cache.0;
      greatest_cache = cache.1;
      greatest_reclaim = reclaim.1;
      greatest_sift = sift.1;
    })

-- ---- all together
request_sound : (form : Form) (rows : List Row) (r : Request) → IsCommand form → request_in form rows ≡ Some r → IsRequest r
unfolding request_in
request_sound form rows r command e =
    let t = bound (task_in form rows) _ r e in
    let rules = bound (rules_in rows) _ r t.2 in
    let fs = bound (files_in form rows) _ r rules.2 in
    let some : Some (request t.0 fs.0 rules.0) ≡ Some r = fs.2 in
    let same : request t.0 fs.0 rules.0 ≡ r = cc in
    let is = task_sound form rows t.0 command t.1 in
    subst IsRequest same (record { files = files_counted form rows fs.0 fs.1 ∙ sym is.1; values = is.0; rules = rules_sound rows rules.0 rules.1 })

after_sound : (form : Form) (words : List Text) (r : Request) → IsCommand form → asked_after form words ≡ Some r → IsRequest r
unfolding asked_after
after_sound form words r command e =
    let none = length (faults form words) == 0 in
    elim (cases_Bool none) [
      | inl h ↦ request_sound form (rows_for form words) r command (sym (cond-true none (request_in form (rows_for form words)) None h) ∙ e)
      | inr h ↦ absurd (let q : None ≡ Some r = sym (cond-false none (request_in form (rows_for form words)) None h) ∙ e in cc)
    ]

-- what words ask for
pub asked_sound : (words : List Text) (r : Request) → asked_of words ≡ Some r → IsRequest r
asked_sound [] r e = absurd (let none : None ≡ Some r = e in cc)
asked_sound (program ∷ []) r e = absurd (let none : None ≡ Some r = e in cc)
asked_sound (program ∷ word ∷ rest) r e = let form = bound (form_of word) (λ f. asked_after f rest) r e in after_sound form.0 rest r (word, form.1) form.2

-- no command has more than two files
pub few_files : (t : Task) → file_count t ≤ 2
few_files task.Eq = omega arith
few_files task.Fidelity = omega arith
few_files (task.Demo qubits gates seed) = omega arith
few_files _ = omega arith
