-- The sites of forms.
use Rattle.std.specs.Prelude.{ℕ, List, Option, Some, None}
use Rattle.std.specs.List.{fold}
use Rattle.std.specs.Option.{option_or}
use Rattle.ot_exec_code.specs.declared.form.Form.{Form}
use Rattle.ot_exec_code.specs.declared.form.Form.TheVariants as f

abbrev pub site_of : Form → Option ℕ
site_of (f.End site r) = Some site
site_of (f.Load site to r) = Some site
site_of (f.Store site r other) = Some site
site_of (f.LoadOwn site to r) = Some site
site_of (f.StoreOwn site r other) = Some site
site_of (f.ReadRange site r other) = Some site
site_of (f.WriteRange site r other) = Some site
site_of (f.Branch site r to) = Some site
site_of (f.Repeat site r to) = Some site
site_of (f.Call site k first) = Some site
site_of (f.CallBy site r first) = Some site
site_of (f.Task site first count behind items when) = Some site
site_of (f.Wait site) = Some site
site_of (f.WaitFor site items) = Some site
site_of (f.Group site items) = Some site
site_of (f.Leave site) = Some site
site_of (f.Lock site r) = Some site
site_of (f.Unlock site r) = Some site
site_of (f.Joins site fold r) = Some site
site_of (f.Turn site r) = Some site
site_of _ = None

-- the site of the last of these that has one
abbrev pub last_site : List Form → Option ℕ
last_site forms = fold (λ found form. option_or (site_of form) found) None forms
